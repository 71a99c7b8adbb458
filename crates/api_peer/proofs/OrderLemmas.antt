-- The orders of a lawful book are within bounds, and those of an orderly one are understood.
use Rattle.std.specs.List.{list_all}
use Rattle.std.specs.Prelude.{All, IfSome, length, nat_le, unwrap_or}
use Rattle.std.proofs.Common.{◌∷◌, ◌≡◌, ◌≤◌, [], List, None, Option, Some, arith, subst, sym, true, ℕ}
use Rattle.std.proofs.lemmas.Bool.Decides.{nat_tests}
use Rattle.std.proofs.lemmas.List.Elements.{All-weaker}
use Rattle.ps_time.specs.Name.{is_name, is_name_byte, is_name_start}
use Rattle.ps_time.specs.Span.{Range, Span}
use Rattle.ps_time.proofs.PictureLemmas.{and_true}
use Rattle.plugin_core.specs.Bounds.{IsTest}
use Rattle.plugin_core.specs.declared.test_spec.TestSpec.{TestSpec}
use Rattle.plugin_core.specs.declared.test_spec.TestSpec.TheVariants.{Simplestream}
use Rattle.plugin_tool.proofs.ChoiceLemmas.{tool_length}
use Rattle.run_states.specs.LawfulRow.{IsLawfulRow, IsWindow, Reserves}
use Rattle.run_states.specs.Life.{settled_rows}
use Rattle.run_states.specs.declared.row.RunRow.{RunRow}
use Rattle.host_model.specs.Book.{Book, moment_at}
use Rattle.host_model.specs.Conditions.{IsConfig}
use Rattle.host_model.specs.Lawful.{Lawful}
use Rattle.host_model.specs.LawfulRow.{IsHostRow}
use Rattle.host_model.specs.Orders.{orders}
use Rattle.host_model.specs.declared.config.Config.{Config}
use Rattle.host_model.specs.declared.order.OrderBody.{OrderBody}
use Rattle.host_model.specs.declared.order.OrderBody.TheVariants.{Free, Propose, Confirm, Cancel, Material, Result}
use Rattle.host_model.proofs.SettledRows.{settled_hosts}
use Rattle.world_law.proofs.Messages.{kept_start}
use Rattle.api_peer.specs.Meant.{KeepsBounds}
use Rattle.api_peer.specs.Ordered.{IsOrder}
use Rattle.api_peer.specs.Listed.{IsListed}
use Rattle.api_peer.specs.Orderly.{IsOrderly, IsOrderlyRow, IsOwnRow, IsWithinDay}
use Rattle.api_peer.proofs.OrderWalk.{OfAsked, OfOrders, orders_all}
use Rattle.api_peer.proofs.OrderlyChanges.{settled_rows_orderly}

name_short : (name : List ℕ) → is_name name ≡ true → length name ≤ 63
name_short [] named = cc
name_short (x ∷ xs) named =
    let few = (and_true (nat_le (length xs) 62) (list_all is_name_byte xs) (and_true (is_name_start x) _ named).1).0 in
    let low : length xs ≤ 62 = grind (arith, nat_tests, few) in
    omega (arith, low)

-- ---- one lawful row
module _ (m : ℕ) (r : RunRow) (row : IsLawfulRow m r) where
  asked_window : (w : Range) → r.question ≡ Some w → IsWindow w
  asked_window w is = subst (λ o. IfSome o IsWindow) is row.question

  material_short : (dest text : List ℕ) (dawdle timeout : ℕ) → r.test ≡ Simplestream dest text dawdle timeout → length text ≤ 8_192
  material_short dest text dawdle timeout is = let test : IsTest (Simplestream dest text dawdle timeout) = subst IsTest is row.test in test.material

  row_listed : OfOrders IsListed r
  row_listed = record {
    free = λ w is. (row.test, asked_window w is);
    propose = record { test = row.test; start = kept_start r.test r.accepted r.tool r.interval row.reserves };
    confirm = tt;
    cancel = tt;
    material = material_short;
    result = tt;
  }

  -- a row that isn't accepted has no tool
  tool_short : (test : TestSpec) (accepted : Option ℕ) (tool : Option (List ℕ)) (interval : Option Span) → Reserves test accepted tool interval → length (unwrap_or tool []) ≤ 14
  tool_short test None None None has = omega arith
  tool_short test (Some a) (Some t) (Some s) has = tool_length t has.0
  tool_short test None None (Some s) has = absurd has
  tool_short test None (Some t) i has = absurd has
  tool_short test (Some a) None i has = absurd has
  tool_short test (Some a) (Some t) None has = absurd has

  -- of the host of this name
  row_bound : (name : List ℕ) → is_name name ≡ true → IsOwnRow name r → OfOrders (KeepsBounds name) r
  row_bound name named own =
      let server : length r.asker.server ≤ 63 = subst (λ s. length s ≤ 63) (sym own.asker.server) (name_short name named) in record {
        free = λ w is. record { window = asked_window w is; day = subst (λ o. IfSome o IsWithinDay) is own.question };
        propose = record {
          start = kept_start r.test r.accepted r.tool r.interval row.reserves;
          lead = own.asker.server;
          short = omega (arith, own.asker.short, tool_short r.test r.accepted r.tool r.interval row.reserves, server);
        };
        confirm = tt;
        cancel = tt;
        material = λ dest text dawdle timeout is. omega (arith, material_short dest text dawdle timeout is);
        result = tt;
      }

-- ---- a lawful book
module _ (self : ℕ) (b : Book) (clock : ℕ) (lawful : Lawful self b) where
  abbrev now : ℕ
  now = moment_at b clock

  rows_lawful : All (IsLawfulRow now) (settled_rows now b.rows)
  rows_lawful =
      All-weaker (IsHostRow self b.tasks now) (IsLawfulRow now) (λ r row. row.row) (settled_rows now b.rows)
      (settled_hosts self b.tasks b.moment now (omega arith) b.rows lawful.rows)

  pub orders_listed : All (λ x. IsListed x.body) (orders b clock)
  orders_listed = orders_all IsListed b clock (All-weaker (IsLawfulRow now) (OfAsked IsListed) (λ r row asked. row_listed now r row) (settled_rows now b.rows) rows_lawful)

  -- what is listed may be sent
  sent : (body : OrderBody) → IsListed body → IsOrder body
  sent (Free q) is = is.0
  sent (Propose p) is = is.test
  sent Confirm is = tt
  sent Cancel is = tt
  sent (Material text) is = tt
  sent Result is = tt

  pub orders_sent : All (λ x. IsOrder x.body) (orders b clock)
  orders_sent = All-weaker (λ x. IsListed x.body) (λ x. IsOrder x.body) (λ x is. sent x.body is) (orders b clock) orders_listed

-- ---- an orderly one
pub orders_bound : (c : Config) (b : Book) (clock : ℕ) → IsConfig c → Lawful c.number b → IsOrderly c.name b → All (λ x. KeepsBounds c.name x.body) (orders b clock)
orders_bound c b clock config lawful own =
    let m : ℕ = moment_at b clock in
    let both : All (λ r. IsLawfulRow m r × IsOrderlyRow c.name r) (settled_rows m b.rows) =
    λ k d inside. (rows_lawful c.number b clock lawful k d inside, settled_rows_orderly c.name m b.rows own.rows k d inside) in
    orders_all (KeepsBounds c.name) b clock
    (All-weaker (λ r. IsLawfulRow m r × IsOrderlyRow c.name r) (OfAsked (KeepsBounds c.name)) (λ r is asked. row_bound m r is.0 c.name config.name (is.1 asked)) (settled_rows m b.rows) both)
