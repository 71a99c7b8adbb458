use Rattle.ps_time.specs.declared.class.Class.TheVariants.{BackgroundMulti, Background, Normal, Exclusive}
use Rattle.host_timeline.specs.Lane.{with_place}
use Rattle.host_timeline.proofs.HoldLemmas.{edited_as, edited_multi, edited_background, edited_normal, edited_exclusive}
use Rattle.host_timeline.proofs.lanes.Lanes.insert.Goals as goal

pub returns-in-BackgroundMulti : goal.returns-in-BackgroundMulti
returns-in-BackgroundMulti c =
    edited_as (λ l. with_place l c.args.booking.now) c.args.booking.now.class BackgroundMulti c.args.self.now _ _ c.in-BackgroundMulti.is c.self.view_is
    (edited_multi (λ l. with_place l c.args.booking.now) _ c.insert.new.self c.insert.ensures.list c.insert.ensures.places)

pub returns-in-Background : goal.returns-in-Background
returns-in-Background c =
    edited_as (λ l. with_place l c.args.booking.now) c.args.booking.now.class Background c.args.self.now _ _ c.in-Background.is c.self.view_is
    (edited_background (λ l. with_place l c.args.booking.now) _ c.insert-in-Background.new.self c.insert-in-Background.ensures.list c.insert-in-Background.ensures.places)

pub returns-in-Normal : goal.returns-in-Normal
returns-in-Normal c =
    edited_as (λ l. with_place l c.args.booking.now) c.args.booking.now.class Normal c.args.self.now _ _ c.in-Normal.is c.self.view_is
    (edited_normal (λ l. with_place l c.args.booking.now) _ c.insert-in-Normal.new.self c.insert-in-Normal.ensures.list c.insert-in-Normal.ensures.places)

pub returns-in-Exclusive : goal.returns-in-Exclusive
returns-in-Exclusive c =
    edited_as (λ l. with_place l c.args.booking.now) c.args.booking.now.class Exclusive c.args.self.now _ _ c.in-Exclusive.is c.self.view_is
    (edited_exclusive (λ l. with_place l c.args.booking.now) _ c.insert-in-Exclusive.new.self c.insert-in-Exclusive.ensures.list c.insert-in-Exclusive.ensures.places)
