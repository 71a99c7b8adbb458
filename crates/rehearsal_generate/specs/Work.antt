-- Generated work: the actions that the draws lead to, over whatever does them and can be looked at.
use Rattle.std.specs.Prelude.{◌+◌, ◌*◌, ◌++◌, ◌∷◌, Bool, List, [], codes, false, map, suc, true, zero, ℕ}
use Rattle.std.specs.Fmt.{decimal}
use Rattle.rehearsal_script.specs.declared.script.ScriptHost.{ScriptHost}
use Rattle.world_law.specs.World.{World}
use Rattle.rehearsal_model.specs.Moves.{Move, asking}
use Rattle.rehearsal_model.specs.Requests.{post}
use Rattle.rehearsal_model.specs.Simulations.{Action, Play, Simulation, UnsyncedKept, config_of, first_play, played, simulation_played}
use Rattle.rehearsal_generate.specs.Draws.{drawn, is_crash, is_loss, next_seed}
use Rattle.rehearsal_generate.specs.Posts.{body_of, partner_of, post_of, seed_after_post}
use Rattle.rehearsal_generate.specs.declared.post.Post.{Post}
use Rattle.rehearsal_generate.specs.declared.tally.Tally.{Tally}

-- ---- the hosts
abbrev pub host_of : ℕ → ScriptHost
host_of number = record { name = codes "h" ++ decimal number; number = number }

abbrev pub host_numbers : List ℕ
host_numbers = 1 ∷ 2 ∷ 3 ∷ 4 ∷ 5 ∷ 6 ∷ 7 ∷ 8 ∷ []

unfoldable pub work_hosts : List ScriptHost
work_hosts = map host_of host_numbers

-- ---- what does the actions
-- what is seen of it, and what it is after a action at a moment
pub record Player (S : Type 0) : Type 0 where
  pub look : S → Simulation
  pub make : S → ℕ → Action → S

-- the hosts with all that ever was
abbrev pub plays : List ScriptHost → Player Play
plays hosts = record { look = λ p. p.simulation; make = played hosts }

-- what is seen of them alone, which is enough
abbrev pub shows : List ScriptHost → Player Simulation
shows hosts = record { look = λ b. b; make = simulation_played hosts }

-- ---- a message
-- the host at the place crashes, and is opened again
abbrev pub crashed : {S : Type 0} → Player S → Bool → ℕ → ℕ → S → S
crashed p false place clock s = s
crashed p true place clock s = p.make s clock (Action.Reopens place clock)

-- the message is lost or arrives
abbrev pub met : {S : Type 0} → Player S → Bool → ℕ → ℕ → S → S
met p false number clock s = p.make s clock (Action.Does (Move.Arrives number clock))
met p true number clock s = p.make s clock (Action.Does (Move.Lost number))

-- one more, where the test holds
abbrev pub noted : Bool → ℕ → List ℕ → List ℕ
noted false n ns = ns
noted true n ns = ns ++ n ∷ []

-- where the draw came to this seed
abbrev pub tallied : ℕ → ℕ → ℕ → Tally → Tally
tallied seed number clock t = record { seed = seed; lost = noted (is_loss (drawn seed)) number t.lost; crashes = noted (is_crash (drawn seed)) clock t.crashes }

-- one draw decides of the crash and of the message
abbrev pub handled_by : {S : Type 0} → Player S → ℕ → ℕ → ℕ → ℕ → S → Tally → S × Tally
handled_by p seed place clock number s t = (met p (is_loss (drawn seed)) number clock (crashed p (is_crash (drawn seed)) place clock s), tallied seed number clock t)

unfoldable pub handled : {S : Type 0} → Player S → ℕ → ℕ → ℕ → S × Tally → S × Tally
handled p place clock number st = handled_by p (next_seed st.1.seed) place clock number st.0 st.1

-- one message after another
abbrev pub walked : {S : Type 0} → Player S → ℕ → ℕ → List ℕ → S × Tally → S × Tally
walked p place clock [] st = st
walked p place clock (n ∷ ns) st = walked p place clock ns (handled p place clock n st)

-- each that is in flight, by its number
unfoldable pub flown : {S : Type 0} → Player S → ℕ → ℕ → S × Tally → S × Tally
flown p place clock st = walked p place clock (p.look st.0).flying st

-- ---- a second
-- the turns of the host at the place and of its partner
abbrev pub turned : {S : Type 0} → Player S → ℕ → ℕ → S → S
turned p place clock s = p.make (p.make s clock (Action.Does (Move.Turns place clock))) clock (Action.Does (Move.Turns (partner_of place) clock))

-- the replies that arise are in flight when the orders have arrived; they bring no more messages
unfoldable pub second : {S : Type 0} → Player S → ℕ → ℕ → S × Tally → S × Tally
second p place clock st = flown p place clock (flown p place clock (turned p place clock st.0, st.1))

-- so many seconds after a moment
abbrev pub seconds : {S : Type 0} → Player S → ℕ → ℕ → ℕ → S × Tally → S × Tally
seconds p place start zero st = st
seconds p place start (suc n) st = second p place (start + n + 1) (seconds p place start n st)

-- ---- a post
abbrev pub first_moment : ℕ
first_moment = 1700000000

-- of the post of a number, the first of which is 0
abbrev pub moment_of_post : ℕ → ℕ
moment_of_post i = first_moment + 10 * i

-- somebody on the host itself posts a task
abbrev pub posting : Simulation → ℕ → Post → Move
posting b clock q = asking q.place clock (post (config_of b q.place) (codes "127.0.0.1") (body_of q) clock)

unfoldable pub posted : {S : Type 0} → Player S → ℕ → Post → S → S
posted p clock q s = p.make s clock (Action.Does (posting (p.look s) clock q))

-- and six seconds go by
abbrev pub lived : {S : Type 0} → Player S → ℕ → Post → S → Tally → S × Tally
lived p clock q s t = seconds p q.place clock 6 (posted p clock q s, t)

unfoldable pub job : {S : Type 0} → Player S → ℕ → S × Tally → S × Tally
job p i st = lived p (moment_of_post i) (post_of st.1.seed) st.0 (record st.1 { seed = seed_after_post st.1.seed })

-- ---- all of it
abbrev pub first_tally : Tally
first_tally = record { seed = 1; lost = []; crashes = [] }

-- after so many posts
abbrev pub worked : {S : Type 0} → Player S → ℕ → S → S × Tally
worked p zero s = (s, first_tally)
worked p (suc n) s = job p n (worked p n s)

-- what so many posts come to
unfoldable pub work : ℕ → Play × Tally
work count = worked (plays work_hosts) count (first_play work_hosts)

-- its world, as what is unsynced turns out
abbrev pub work_of : ℕ → UnsyncedKept → World
work_of count = (work count).0.worlds
