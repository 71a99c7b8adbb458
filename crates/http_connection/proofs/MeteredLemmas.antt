-- What reads and writes through a meter keep.
use Rattle.std.proofs.Common.{◌≡◌, ◌<◌, ℕ, arith}
use Rattle.ps_ports.specs.Causes.{counted}
use Rattle.http_connection.specs.Metered.{Seen, Took-refl, Took-trans, Used}

pub used_none : (a : Seen) → Used a a
used_none a = record { read_faults = omega arith; write_faults = omega arith; refusals = omega arith; fair = λ f. f; took = Took-refl a }

pub used_then : (a b c : Seen) → Used a b → Used b c → Used a c
used_then a b c p q = record {
  read_faults = omega (arith, p.read_faults, q.read_faults);
  write_faults = omega (arith, p.write_faults, q.write_faults);
  refusals = omega (arith, p.refusals, q.refusals);
  fair = λ f. q.fair (p.fair f);
  took = Took-trans a b c p.took q.took;
}

-- a new meter has refused no read
pub fair_new : (room refusals : ℕ) → refusals ≡ 0 → 0 < counted refusals → room ≡ 0
fair_new room refusals none some = absurd (omega (arith, none, some))
