use Rattle.std.specs.Prelude.{slice_get}
use Rattle.std.proofs.Common.{◌≡◌, ◌-◌, ◌<◌, ◌∙◌, List, Some, ap, length, subst, sym}
use Rattle.api_peer.specs.Replied.{IsReplyTo}
use Rattle.world_law.specs.Events.{brings}
use Rattle.world_law.specs.World.{Message}
use Rattle.rehearsal_model.specs.Moves.{place_numbered, receiver}
use Rattle.rehearsal_model.specs.Simulations.{Simulation, as_read}
use Rattle.rehearsal_model.specs.Seen.{message}
use Rattle.rehearsal_lines.proofs.ArriveLemmas.{left_crashed, left_replied, left_unanswered, messages_now, replies_so, same_message, within_now}
use Rattle.rehearsal_lines.proofs.arrive.take_order.Goals as goal

pub send_back-requires-clause-place : goal.send_back-requires-clause-place
send_back-requires-clause-place c =
    let hosts = c.args.hosts.now in
    let b : Simulation = c.args.now.now in
    let l = c.message_at-message.result.now in
    let sent = c.message_at-message.ensures in
    let place_is : c.place_of-place.result ≡ receiver hosts l = c.place_of-place.ensures ∙ ap (place_numbered hosts) c.goes_to.ensures in
    within_now hosts b c.args.position l c.requires.playing sent c.place_of-place.result place_is c.bring.new.now c.args.clock (brings l l.reply) (c.in_ok-bring.ensures.simulation l sent)

pub send_back-requires-clause-sent : goal.send_back-requires-clause-sent
send_back-requires-clause-sent c =
    let l = c.message_at-message.result.now in
    let sent = c.message_at-message.ensures in
    let kept = messages_now c.args.hosts.now c.args.now.now c.args.position l c.requires.playing sent c.bring.new.now c.args.clock (brings l l.reply) (c.in_ok-bring.ensures.simulation l sent) in
    subst (λ (ls : List Message). c.args.position - 1 < length ls) (sym kept) c.requires.sent

-- what was replied is a reply to the order
pub send_back-requires-clause-told : goal.send_back-requires-clause-told
send_back-requires-clause-told c = λ other also.
    let hosts = c.args.hosts.now in
    let b : Simulation = c.args.now.now in
    let n = c.args.position in
    let l = c.message_at-message.result.now in
    let sent = c.message_at-message.ensures in
    let kept = messages_now hosts b n l c.requires.playing sent c.bring.new.now c.args.clock (brings l l.reply) (c.in_ok-bring.ensures.simulation l sent) in
    let there : message (as_read b) n ≡ Some other = sym (ap (λ (ls : List Message). slice_get ls (n - 1)) kept) ∙ also in
    subst (λ (m : Message). IsReplyTo m.order.body c.in-Answered.reply) (same_message b n l other sent there)
    (replies_so hosts b n l c.requires.playing sent c.args.clock (c.requires.order l sent) c.requires.clock c.in-Answered.reply (sym (c.in_ok-bring.ensures.outcome l sent) ∙ c.in-Answered.is) c.reply_widths.ensures)

pub returns-in-Crashed-clause-simulation : goal.returns-in-Crashed-clause-simulation
returns-in-Crashed-clause-simulation c =
    let b : Simulation = c.args.now.now in
    let l = c.message_at-message.result.now in
    let sent = c.message_at-message.ensures in
    left_crashed c.args.hosts.now b c.args.position c.args.clock l sent c.bring.new.now (c.in_ok-bring.ensures.simulation l sent) (sym (c.in_ok-bring.ensures.outcome l sent) ∙ c.in-Crashed.is)

-- nobody is answered
pub returns-in_ok-send_broken-in-Faulted-clause-simulation : goal.returns-in_ok-send_broken-in-Faulted-clause-simulation
returns-in_ok-send_broken-in-Faulted-clause-simulation c =
    let b : Simulation = c.args.now.now in
    let l = c.message_at-message.result.now in
    let sent = c.message_at-message.ensures in
    left_unanswered c.args.hosts.now b c.args.position c.args.clock l sent c.bring.new.now (c.in_ok-bring.ensures.simulation l sent) (c.requires.order l sent) (sym (c.in_ok-bring.ensures.outcome l sent) ∙ c.in-Faulted.is) c.send_broken.new.self c.in_ok-send_broken-in-Faulted.ensures

-- the reply is sent
pub returns-in_ok-send_back-in-Answered-clause-simulation : goal.returns-in_ok-send_back-in-Answered-clause-simulation
returns-in_ok-send_back-in-Answered-clause-simulation c =
    let hosts = c.args.hosts.now in
    let b : Simulation = c.args.now.now in
    let n = c.args.position in
    let l = c.message_at-message.result.now in
    let sent = c.message_at-message.ensures in
    let reply = c.in-Answered.reply in
    let simulation = c.in_ok-bring.ensures.simulation l sent in
    let kept = messages_now hosts b n l c.requires.playing sent c.bring.new.now c.args.clock (brings l l.reply) simulation in
    let there : message (as_read c.bring.new.now) n ≡ Some l = ap (λ (ls : List Message). slice_get ls (n - 1)) kept ∙ sent in
    left_replied hosts b n c.args.clock l sent c.bring.new.now simulation (c.requires.order l sent) reply (sym (c.in_ok-bring.ensures.outcome l sent) ∙ c.in-Answered.is) c.send_back.new.now (c.in_ok-send_back-in-Answered.ensures l there)
