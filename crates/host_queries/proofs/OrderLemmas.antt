-- What a listing of orders asks of a lawful book as it settles, and of the keys of its rows that are live by the moment.
use Rattle.std.specs.Prelude.{All}
use Rattle.std.proofs.Common.{◌≡◌, ◌≤◌, ◌∙◌, ℕ, Bool, true, false, List, [], Option, Some, None, length, option_map, refl, sym, ap, subst, arith}
use Rattle.std.proofs.lemmas.List.Elements.{All-weaker}
use Rattle.ps_time.specs.Numbers.{greatest_moment}
use Rattle.ps_time.specs.declared.key.RunKey.{RunKey}
use Rattle.limit_apply.specs.Limits.{LimitsConfig as Limits}
use Rattle.run_states.specs.LawfulRow.{HasOrigin}
use Rattle.run_states.specs.Life.{settled_row, settled_rows}
use Rattle.run_states.specs.Rows.{IsAscendingRows, find_row}
use Rattle.run_states.specs.declared.row.RunRow.{RunRow}
use Rattle.host_rows.specs.Still.{is_live_by, keys_live_by}
use Rattle.host_rows.proofs.KeyLemmas.{passing_up}
use Rattle.live_law.proofs.StillLemmas.{silent, silent_orders, unlive_ever, unlive_settled}
use Rattle.host_model.specs.Apply.{settled}
use Rattle.host_model.specs.Book.{Book, moment_at}
use Rattle.host_model.specs.Lawful.{Lawful}
use Rattle.host_model.specs.LawfulRow.{IsHostRow}
use Rattle.host_model.specs.Orders.{orders, orders_of, row_orders}
use Rattle.host_model.proofs.GrownLemmas.{settled_evolves}
use Rattle.host_model.proofs.SettledBook.{book_settled}
use Rattle.host_model.proofs.Standing.{find_row-map}
use Rattle.lead_orders.specs.Listing.{AreAscending, HasFewOthers, HaveOrders, found_orders, is_among}
use Rattle.host_draft.specs.Draft.{Seen, opened}
use Rattle.host_draft.proofs.OverLemmas.{named_passing}

-- the orders at m of these rows can be listed by these keys
pub record AreListed (m : ℕ) (rows : List RunRow) (keys : List RunKey) : Type 0 where
  pub rows_up : IsAscendingRows rows
  pub keys_up : AreAscending keys
  pub named : HaveOrders m keys rows
  pub few : All HasFewOthers rows

few_others : (r : RunRow) (o : Option ℕ) → length r.participants ≤ 8 → HasOrigin r o → HasFewOthers r
few_others r None few origin = omega (arith, ap length origin.2)
few_others r (Some asked) few origin = omega (arith, few, origin.1)

module _ (self m : ℕ) (rows : List RunRow) (k : RunKey) (out : is_among (keys_live_by self m rows) k ≡ false) where
  -- a row whose key isn't among them isn't live by the moment, so that it settles as it is and has no orders
  row_none : (r : RunRow) → find_row rows k ≡ Some r → (b : Bool) → is_live_by self m r ≡ b → row_orders m (settled_row m r) ≡ []
  row_none r at false is = ap (row_orders m) (unlive_settled self m r is) ∙ silent_orders r (silent self r (unlive_ever self m r is)) m
  row_none r at true is = let named : is_among (keys_live_by self m rows) k ≡ true = named_passing (is_live_by self m) rows k r at is in cc

  found_none : (o : Option RunRow) → find_row rows k ≡ o → found_orders m (option_map (settled_row m) o) ≡ []
  found_none None at = refl
  found_none (Some r) at = row_none r at (is_live_by self m r) refl

  pub none_named : found_orders m (find_row (settled_rows m rows) k) ≡ []
  none_named = ap (found_orders m) (find_row-map (settled_row m) (λ r. (settled_evolves m r).key) rows k) ∙ found_none (find_row rows k) refl

module _ (self m : ℕ) (b : Book) (lawful : Lawful self b) (later : b.moment ≤ m) (bound : m ≤ greatest_moment) where
  book_listed : AreListed m (settled_rows m b.rows) (keys_live_by self m b.rows)
  book_listed =
      let now : Lawful self (settled m b) = book_settled self b m later bound lawful in
      record {
        rows_up = now.ascending;
        keys_up = passing_up (is_live_by self m) b.rows lawful.ascending;
        named = none_named self m b.rows;
        few = All-weaker (IsHostRow self b.tasks m) HasFewOthers (λ r row. few_others r r.asked row.row.participants.few row.row.origin) (settled_rows m b.rows) now.rows;
      }

  -- so can those of a draft that is opened
  pub draft_listed : (l : Limits) (s : Seen) (keys : List RunKey) → s ≡ opened self m l b → keys ≡ keys_live_by self m b.rows → AreListed s.draft.book.moment s.draft.book.rows keys
  draft_listed l s keys is named =
      subst (λ (x : Seen). AreListed x.draft.book.moment x.draft.book.rows keys) (sym is) (subst (AreListed m (settled_rows m b.rows)) (sym named) book_listed)

-- the orders of such a draft are those of the book at the clock
pub opened_orders : (self clock m : ℕ) (l : Limits) (b : Book) (s : Seen) → s ≡ opened self m l b → m ≡ moment_at b clock → orders_of s.draft.book.rows s.draft.book.moment ≡ orders b clock
opened_orders self clock m l b s is at =
    ap (λ (x : Seen). orders_of x.draft.book.rows x.draft.book.moment) is ∙ ap (λ n. orders_of (settled_rows n b.rows) n) at
