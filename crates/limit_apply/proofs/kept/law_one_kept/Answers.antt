use Rattle.limit_apply.specs.Read.{config_in}
use Rattle.std.proofs.Common.{◌≡◌, Ok, ◌<◌, ◌^◌, ℕ, ap, subst}
use Rattle.limit_apply.specs.declared.limits.Counts.{Counts}
use Rattle.limit_apply.proofs.KeptLemmas.{config_bounded}
use Rattle.limit_apply.proofs.kept.law_one_kept.Goals as goal

pub returns : goal.returns
returns c =
    let again = subst (λ t. config_in t ≡ Ok c.args.limits.now) c.text-known.ensures.text c.text-known.ensures.again in
    record {
      identifiers = subst (λ (n : ℕ). n < 2 ^ 32) (ap (λ (x : Counts). x.identifiers) c.counts-counts.ensures) c.law_counted.ensures.0;
      classifiers = subst (λ (n : ℕ). n < 2 ^ 32) (ap (λ (x : Counts). x.classifiers) c.counts-counts.ensures) c.law_counted.ensures.1;
      limits = subst (λ (n : ℕ). n < 2 ^ 32) (ap (λ (x : Counts). x.limits) c.counts-counts.ensures) c.law_counted.ensures.2;
      applications = subst (λ (n : ℕ). n < 2 ^ 32) (ap (λ (x : Counts). x.applications) c.counts-counts.ensures) c.law_counted.ensures.3;
      priorities = config_bounded c.args.limits.now.text c.args.limits.now again;
      again = again;
    }
