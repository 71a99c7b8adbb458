-- Hosts that are told one after another.
use Rattle.std.proofs.Common.{◌≡◌, ◌∷◌, List, [], arith, length, map, refl, subst}
use Rattle.simulated_machine.specs.Held.{Held}
use Rattle.ps_disks.specs.MemoryDisk.{DiskState}
use Rattle.world_law.specs.World.{Stage}
use Rattle.rehearsal_lines.specs.Kept.{AreKeptOn, IsKeptOn}

pub none_left : (ss : List (Held Stage)) → length ss ≡ 0 → ss ≡ []
none_left [] is = refl
none_left (s ∷ ss) is = absurd (omega (arith, is))

abbrev pub states_of : List (Held Stage) → List Stage
states_of hs = map (λ (h : Held Stage). h.state) hs

-- disks stand for hosts in the same states too
pub kept_as_well : (hs gs : List (Held Stage)) (ds : List (DiskState × DiskState)) → states_of hs ≡ states_of gs → AreKeptOn hs ds → AreKeptOn gs ds
kept_as_well [] [] ds same kept = kept
kept_as_well [] (g ∷ gs) ds same kept = absurd (cc same)
kept_as_well (h ∷ hs) [] ds same kept = absurd (cc same)
kept_as_well (h ∷ hs) (g ∷ gs) [] same kept = kept
kept_as_well (h ∷ hs) (g ∷ gs) (d ∷ ds) same kept =
    let first : h.state ≡ g.state = cc same in
    let others : states_of hs ≡ states_of gs = cc same in
    (subst (λ (s : Stage). IsKeptOn s d.0 d.1) first kept.0, kept_as_well hs gs ds others kept.1)
