-- What a lead has to say to the other participants of a run, and what their answers change, computed.
use Rattle.std.specs.Prelude.{◌∷◌, ◌≡◌, ◌+◌, List, None, Option, Some, [], codes, false, map, pos, replicate, suc, true, zero, ℕ}
use Rattle.std.proofs.Common.{refl}
use Rattle.ps_time.specs.declared.asker.Asker.{Asker}
use Rattle.ps_time.specs.declared.asker.Verdict.TheVariants.{Exhausted}
use Rattle.ps_time.specs.declared.key.RunKey.{RunKey}
use Rattle.plugin_core.specs.declared.test_spec.TestSpec.{TestSpec}
use Rattle.plugin_core.specs.declared.test_spec.TestSpec.TheVariants.{Simplestream}
use Rattle.run_states.specs.declared.answer.Other.{Other}
use Rattle.run_states.specs.declared.answer.Told.{Told}
use Rattle.run_states.specs.declared.answer.Told.TheVariants.{Cancel, Confirm, Material}
use Rattle.run_states.specs.declared.row.RunRow.{RunRow}
use Rattle.run_states.specs.declared.state.State.TheVariants.{Canceled as canceled_state, Running}
use Rattle.run_states.specs.declared.why.Why.{Why}
use Rattle.run_states.specs.declared.why.Why.TheVariants.{Canceled, Nonstart}
use Rattle.host_model.specs.Book.{empty_book}
use Rattle.host_model.specs.Heard.{completes, hear}
use Rattle.host_model.specs.NewRow.{asked_row, unheard}
use Rattle.host_model.specs.Orders.{orders_of}
use Rattle.host_model.specs.declared.change.Change.{Change}
use Rattle.host_model.specs.declared.order.OrderBody.{OrderBody}
use Rattle.host_model.specs.declared.order.PeerAnswer.{PeerAnswer}
use Rattle.host_model_tests.proofs.Given.{free_with, good_result, k, order_to_b, proposal, question}
use Rattle.host_model.specs.declared.change.Change.TheVariants as change
use Rattle.host_model.specs.declared.order.OrderBody.TheVariants as order
use Rattle.host_model.specs.declared.order.PeerAnswer.TheVariants as answer
use Rattle.run_states.specs.declared.why.Denial.TheVariants as denial

-- ---- a run of hosts a and b that a leads, from 1007 to 1017, at every turn of its life
abbrev key : RunKey
key = k 1 1 0 0

-- a text of 5 bytes that is sent to host b at 1007, after a dawdle of 3 s
abbrev text : TestSpec
text = Simplestream (codes "b") (codes "hello") 3 7

abbrev asker : Asker
asker = record { requester = codes "10.0.0.9"; server = codes "a" }

-- what is known of another participant that has accepted, and of one that has told all that there is to tell
abbrev accepting : Other
accepting = record unheard { accepted = true }

abbrev all_told : Other
all_told = record { free = Some (free_with (codes "sleep") 1000 1100); accepted = true; confirm_told = true; cancel_told = true; material_told = true; heard = Some (Some good_result) }

-- it was just asked about
abbrev asked : RunRow
asked = record (asked_row 1001 (question key text (pos 0) 1006 1300) (codes "a" ∷ codes "b" ∷ []) asker) { interval = Some (record { start = 1007; end = 1017 }) }

-- its lead has accepted it
abbrev planned : RunRow
planned = record asked { accepted = Some 1002 }

-- all have
abbrev confirmed : RunRow
confirmed = record planned { confirmed = Some 1003 }

abbrev canceled : RunRow
canceled = record planned { closed = Some (record { moment = 1003; why = Canceled }) }

abbrev started_at : ℕ → RunRow
started_at m = record confirmed { started = Some m }

abbrev ended : RunRow
ended = record (started_at 1007) { ended = Some (record { moment = 1015; good = true; body = good_result }) }

-- with this of the other participants
abbrev with_others : List Other → RunRow → RunRow
with_others others r = record r { others = others }

-- ---- what becomes of each order's answers
-- a letter for a change
abbrev told_letter : Told → ℕ
told_letter Confirm = 121
told_letter Cancel = 120
told_letter Material = 109

abbrev closed_letter : Why → ℕ
closed_letter (Nonstart _) = 100
closed_letter Canceled = 99
closed_letter _ = 63

abbrev result_letter : Option (List ℕ) → ℕ
result_letter None = 110
result_letter (Some _) = 114

-- f: the free answer is kept. a: the acceptance. y, x, m: that it was told of the confirmation, of the cancellation, the
-- material. r: the result. n: that there is none. d: the run is closed as denied. c: it is closed as canceled.
abbrev change_letter : Change → ℕ
change_letter (change.FreeHeard _ _ _) = 102
change_letter (change.AcceptHeard _ _) = 97
change_letter (change.Told _ _ told) = told_letter told
change_letter (change.ResultHeard _ _ result) = result_letter result
change_letter (change.Closed _ why) = closed_letter why
change_letter _ = 63

-- a dot where nothing changes
abbrev letter : List Change → ℕ
letter [] = 46
letter (c ∷ []) = change_letter c
letter (c ∷ d ∷ cs) = 63

abbrev bodies : List OrderBody
bodies =
    order.Free (question key text (pos 0) 1006 1300) ∷
    order.Propose (proposal key text (codes "sleep") 1007 (pos 0) (codes "10.0.0.9") (codes "a")) ∷
    order.Confirm ∷ order.Cancel ∷ order.Material (codes "hello") ∷ order.Result ∷ []

-- a free answer, accepted, confirmed, dropped, material heard, a result, no result yet, a denial for limits, for a host that is no
-- participant, for a run that is closed there, for another reason, no such run, any other status
abbrev answers : List PeerAnswer
answers =
    answer.Free (free_with (codes "sleep") 1000 1100) ∷ answer.Accepted 1003 ∷ answer.Confirmed 1003 ∷ answer.Dropped ∷ answer.MaterialHeard ∷
    answer.Result good_result ∷ answer.State Running ∷
    answer.Denied (denial.Limits Exhausted) ∷ answer.Denied denial.NotParticipant ∷ answer.Denied (denial.Closed canceled_state) ∷ answer.Denied (denial.Past 1008 1007) ∷
    answer.Unknown ∷ answer.Other 500 ∷ []

-- a line for each order, with a letter for each answer to it
abbrev table : ℕ → RunRow → List (List ℕ)
table place r = map (λ body. map (λ said. letter (hear (record empty_book { rows = r ∷ [] }) (order_to_b key place body) said).list) answers) bodies

abbrev nothing : List (List ℕ)
nothing = replicate 6 (codes ".............")

-- nothing was heard of it before
unheard_planned : table 1 planned ≡ codes "f......dd...." ∷ codes ".a.....dddd.." ∷ codes "..y......c.c." ∷ codes "...x........." ∷ codes "....m........" ∷ codes ".....r...n..." ∷ []
unheard_planned = refl

-- the same facts are kept, and no denial closes the run
unheard_confirmed : table 1 confirmed ≡ codes "f............" ∷ codes ".a..........." ∷ codes "..y......c.c." ∷ codes "...x........." ∷ codes "....m........" ∷ codes ".....r...n..." ∷ []
unheard_confirmed = refl

-- nothing is lost any more
abbrev over : List (List ℕ)
over = codes "f............" ∷ codes ".a..........." ∷ codes "..y.........." ∷ codes "...x........." ∷ codes "....m........" ∷ codes ".....r...n..." ∷ []

unheard_started : table 1 (started_at 1003) ≡ over
unheard_started = refl

unheard_canceled : table 1 canceled ≡ over
unheard_canceled = refl

-- no fact is kept twice
all_heard : table 1 (with_others (all_told ∷ []) confirmed) ≡ codes "............." ∷ codes "............." ∷ codes ".........c.c." ∷ codes "............." ∷ codes "............." ∷ codes "............." ∷ []
all_heard = refl

-- of a run that another host leads, of the lead's own place, and of a place that nobody has
anothers : table 1 (record planned { asked = None }) ≡ nothing
anothers = refl

own_place : table 0 planned ≡ nothing
own_place = refl

no_place : table 2 planned ≡ nothing
no_place = refl

-- ---- the last acceptance
last_acceptances :
    completes (with_others (accepting ∷ accepting ∷ unheard ∷ []) planned) 3 ∷
    completes (with_others (accepting ∷ accepting ∷ unheard ∷ []) planned) 1 ∷
    completes (with_others (accepting ∷ accepting ∷ unheard ∷ []) planned) 4 ∷
    completes (with_others (accepting ∷ unheard ∷ unheard ∷ []) planned) 3 ∷
    completes (with_others (unheard ∷ accepting ∷ accepting ∷ []) planned) 1 ∷
    completes (with_others (accepting ∷ accepting ∷ unheard ∷ []) asked) 3 ∷
    completes (with_others (accepting ∷ accepting ∷ unheard ∷ []) canceled) 3 ∷ []
    ≡ true ∷ false ∷ false ∷ false ∷ true ∷ false ∷ false ∷ []
last_acceptances = refl

-- ---- when each order is listed
-- f: which starts are free? p: take part. c: all have accepted. x: the run won't be. m: the material. r: how did it go?
abbrev body_letter : OrderBody → ℕ
body_letter (order.Free _) = 102
body_letter (order.Propose _) = 112
body_letter order.Confirm = 99
body_letter order.Cancel = 120
body_letter (order.Material _) = 109
body_letter order.Result = 114

-- to the participant at a place
pub record Listed : Type 0 where
  pub place : ℕ
  pub letter : ℕ

abbrev listed : ℕ → RunRow → List Listed
listed m r = map (λ o. record { place = o.place; letter = body_letter o.body }) (orders_of (r ∷ []) m)

-- all to the first of the others
abbrev to_b : List ℕ → List Listed
to_b letters = map (λ l. record { place = 1; letter = l }) letters

as_it_goes_on :
    listed 1002 (record planned { asked = None }) ∷
    listed 1002 asked ∷
    listed 1002 planned ∷
    listed 1002 (with_others (accepting ∷ []) planned) ∷
    listed 1016 confirmed ∷
    listed 1017 confirmed ∷
    listed 1002 (with_others (all_told ∷ []) confirmed) ∷
    listed 1009 (started_at 1007) ∷
    listed 1010 (started_at 1007) ∷
    listed 1016 ended ∷
    listed 1017 ended ∷
    listed 1017 (record ended { merged = Some good_result }) ∷
    listed 1002 canceled ∷
    listed 1016 (with_others (accepting ∷ []) canceled) ∷
    listed 1017 (with_others (accepting ∷ []) canceled) ∷ []
    ≡ map to_b (codes "" ∷ codes "f" ∷ codes "fp" ∷ codes "f" ∷ codes "fc" ∷ codes "f" ∷ codes "" ∷ codes "fc" ∷ codes "fcm" ∷ codes "fc" ∷ codes "fr" ∷ codes "f" ∷ codes "" ∷ codes "x" ∷ codes "" ∷ [])
as_it_goes_on = refl

-- of the 80 to 40 other participants the first 64: two for each place, in turn
abbrev two_each : ℕ → ℕ → List Listed
two_each place zero = []
two_each place (suc more) = record { place = place; letter = 102 } ∷ record { place = place; letter = 112 } ∷ two_each (place + 1) more

first_64 : listed 1002 (with_others (replicate 40 unheard) planned) ≡ two_each 1 32
first_64 = refl
