-- What the loops over a source and over a sink keep.
use Rattle.std.proofs.Common.{◌≡◌, ◌<◌, ◌-◌, ℕ, List, ◌++◌, length, take, drop, sym, ap, subst, ◌∙◌, arith, append_assoc, length-append, length-take, length-drop, take-append-drop}
use Rattle.std.specs.Prelude.{Option}
use Rattle.std.specs.Io.KnownBytes.{Appends, Keeps}
use Rattle.std.proofs.KnownBytes.{Appends-trans, Appends-kept}
use Rattle.std.proofs.lemmas.List.{take_rest}
use Rattle.std.proofs.Math.Seq.{take-append_seam}
use Rattle.ps_ports.specs.All.{WrotePrefix}

-- the front of the bytes went out, and the rest is left
pub record Wrote (old now : Option (List ℕ)) (bytes rest : List ℕ) : Type 0 where
  pub done : List ℕ
  pub split : bytes ≡ done ++ rest
  pub appended : Appends old now done

-- n bytes more
pub Wrote-more : (old mid now : Option (List ℕ)) (bytes rest : List ℕ) (n : ℕ) → Wrote old mid bytes rest → Appends mid now (take n rest)
    → Wrote old now bytes (take (length rest - n) (drop n rest))
Wrote-more old mid now bytes rest n wrote more = record {
  done = wrote.done ++ take n rest;
  split = wrote.split ∙ ap (λ l. wrote.done ++ l) (sym (take-append-drop n rest)) ∙ sym (append_assoc wrote.done (take n rest) (drop n rest))
      ∙ ap (λ l. (wrote.done ++ take n rest) ++ l) (sym (take_rest rest n));
  appended = Appends-trans old mid now wrote.done (take n rest) wrote.appended more;
}

-- where some are left, what went out is a part of the front
pub prefix_of : (old now : Option (List ℕ)) (bytes rest : List ℕ) → Wrote old now bytes rest → 0 < length rest → WrotePrefix old now bytes
prefix_of old now bytes rest wrote left =
    let shorter : length wrote.done < length bytes = omega (arith, ap length wrote.split, length-append wrote.done rest) in
    let front : wrote.done ≡ take (length wrote.done) bytes = sym (ap (take (length wrote.done)) wrote.split ∙ take-append_seam wrote.done rest) in
    (length wrote.done, shorter, subst (Appends old now) front wrote.appended)

pub Wrote-kept : (old mid now : Option (List ℕ)) (bytes rest : List ℕ) → Wrote old mid bytes rest → Keeps mid now → Wrote old now bytes rest
Wrote-kept old mid now bytes rest wrote kept = record { done = wrote.done; split = wrote.split; appended = Appends-kept old mid now wrote.done wrote.appended kept }

-- where n bytes more went out, and n isn't all that was left
pub prefix_of-more : (old mid now : Option (List ℕ)) (bytes rest : List ℕ) (n : ℕ) → Wrote old mid bytes rest → Appends mid now (take n rest)
    → n < length rest → WrotePrefix old now bytes
prefix_of-more old mid now bytes rest n wrote more left =
    prefix_of old now bytes (take (length rest - n) (drop n rest)) (Wrote-more old mid now bytes rest n wrote more)
    (omega (arith, length-take (length rest - n) (drop n rest), length-drop n rest))
