use Rattle.std.proofs.Common.{◌≡◌, subst}
use Rattle.ps_time.specs.declared.class.Class.TheVariants.{BackgroundMulti, Background, Normal, Exclusive}
use Rattle.host_timeline.specs.Lane.{place_of, without_place}
use Rattle.host_timeline.proofs.HoldLemmas.{edited_as, edited_multi, edited_background, edited_normal, edited_exclusive}
use Rattle.host_timeline.proofs.lanes.Lanes.remove.Goals as goal

pub returns-in-BackgroundMulti : goal.returns-in-BackgroundMulti
returns-in-BackgroundMulti c =
    edited_as (λ l. without_place l (place_of c.args.booking.now)) c.args.booking.now.class BackgroundMulti c.args.self.now _ _ c.in-BackgroundMulti.is c.self.view_is
    (edited_multi (λ l. without_place l (place_of c.args.booking.now)) _ c.remove.new.self (subst (λ p. c.remove.new.self.list ≡ without_place c.self.inside.background_multi.list p) c.place_of-place.ensures c.remove.ensures.list) c.remove.ensures.places)

pub returns-in-Background : goal.returns-in-Background
returns-in-Background c =
    edited_as (λ l. without_place l (place_of c.args.booking.now)) c.args.booking.now.class Background c.args.self.now _ _ c.in-Background.is c.self.view_is
    (edited_background (λ l. without_place l (place_of c.args.booking.now)) _ c.remove-in-Background.new.self (subst (λ p. c.remove-in-Background.new.self.list ≡ without_place c.self.inside.background.list p) c.place_of-place.ensures c.remove-in-Background.ensures.list) c.remove-in-Background.ensures.places)

pub returns-in-Normal : goal.returns-in-Normal
returns-in-Normal c =
    edited_as (λ l. without_place l (place_of c.args.booking.now)) c.args.booking.now.class Normal c.args.self.now _ _ c.in-Normal.is c.self.view_is
    (edited_normal (λ l. without_place l (place_of c.args.booking.now)) _ c.remove-in-Normal.new.self (subst (λ p. c.remove-in-Normal.new.self.list ≡ without_place c.self.inside.normal.list p) c.place_of-place.ensures c.remove-in-Normal.ensures.list) c.remove-in-Normal.ensures.places)

pub returns-in-Exclusive : goal.returns-in-Exclusive
returns-in-Exclusive c =
    edited_as (λ l. without_place l (place_of c.args.booking.now)) c.args.booking.now.class Exclusive c.args.self.now _ _ c.in-Exclusive.is c.self.view_is
    (edited_exclusive (λ l. without_place l (place_of c.args.booking.now)) _ c.remove-in-Exclusive.new.self (subst (λ p. c.remove-in-Exclusive.new.self.list ≡ without_place c.self.inside.exclusive.list p) c.place_of-place.ensures c.remove-in-Exclusive.ensures.list) c.remove-in-Exclusive.ensures.places)
