-- What the four statements are, as commands.
use Rattle.std.proofs.Common.{◌≡◌, ℕ, pos, negsuc, List, [], ◌∷◌, codes, false, Some, None, Ok, refl}
use Rattle.sqlite.specs.declared.types.Value.TheVariants.{Null, Int}
use Rattle.sqlite.specs.Term.{Term, lit, col, op2}
use Rattle.sqlite.specs.Query.{Query, inner, end}
use Rattle.sqlite.specs.Source.TheVariants.{Values}
use Rattle.sqlite.specs.Command.{Command}
use Rattle.sqlite.specs.Command.TheVariants.{InsertOr, Select, CreateTable}
use Rattle.sqlite.specs.Compile.{table_defined_by}
use Rattle.sqlite.specs.Listing.{understood, reads_listing}
use Rattle.sqlite.proofs.Callers.{IsPlain, command_of, statement_of}
use Rattle.sqlite_schema.specs.declared.command.Conflict.TheVariants.{Abort}
use Rattle.sqlite_schema.specs.declared.command.Upsert.{Upsert}
use Rattle.sqlite_schema.specs.declared.program.Program.{Program}
use Rattle.sqlite_sql.specs.declared.ops.BinaryOp.TheVariants.{Compare}
use Rattle.sqlite_sql.specs.declared.ops.CompareOp.TheVariants.{Eq, Gt}
use Rattle.sqlite_tied.specs.Compute.{everything}
use Rattle.sqlite_value.specs.declared.keys.Collation.TheVariants.{Binary}
use Rattle.sqlite_value.specs.declared.keys.Key.{Key}
use Rattle.sqlite_value.specs.Keys.{ascending}
use Rattle.result_rows.specs.Statement.{create_text, put_text, get_text, list_text, all_text}
use Rattle.result_rows.specs.Table.{results, no_schema, results_schema}

-- a query over the table alone
abbrev pub query : List Term → List Term → List (Term × Key) → Term → Query
query filter project order limit = record {
  from = inner 0 end;
  filter = filter;
  group = None;
  project = project;
  distinct = false;
  collations = [];
  order = order;
  limit = limit;
  offset = lit (Int (pos 0));
}

abbrev pub program : Query → Program
program body = record { lets = []; body = body }

-- the five columns
abbrev pub columns : List Term
columns = col 1 1 ∷ col 1 2 ∷ col 1 3 ∷ col 1 4 ∷ col 1 5 ∷ []

abbrev pub no_limit : Term
no_limit = lit (Int (negsuc 0))

abbrev pub get_query : Query
get_query = query (op2 (Compare Eq Binary) (col 1 1) (col 0 0) ∷ []) columns [] no_limit

abbrev pub list_query : Query
list_query = query (op2 (Compare Gt Binary) (col 1 1) (col 0 0) ∷ []) columns ((col 1 1, ascending Binary) ∷ []) (col 0 1)

abbrev pub all_query : Query
all_query = query [] columns [] no_limit

-- the row that is there, with the new moment, flag and body
abbrev pub update_query : Query
update_query = query (op2 (Compare Eq Binary) (col 1 0) (col 0 4) ∷ []) (col 1 0 ∷ col 1 0 ∷ col 1 1 ∷ col 1 2 ∷ col 0 8 ∷ col 0 9 ∷ col 0 10 ∷ []) [] no_limit

abbrev pub new_row : List Term
new_row = lit Null ∷ col 0 0 ∷ col 0 1 ∷ col 0 1 ∷ col 0 2 ∷ col 0 3 ∷ []

-- where the `id` is there, its row is updated
abbrev pub clause : Upsert
clause = record { target = Some (1 ∷ []); update = Some (program update_query) }

abbrev pub put_command : Command
put_command = InsertOr 0 Abort (Values new_row 6) (clause ∷ [])

abbrev names : List (List ℕ)
names = codes "id" ∷ codes "since" ∷ codes "latest" ∷ codes "good" ∷ codes "body" ∷ []

abbrev pub get_command : Command
get_command = Select (program get_query) names

abbrev pub list_command : Command
list_command = Select (program list_query) names

abbrev pub all_command : Command
all_command = Select (program all_query) names

pub create_is : (command_of (understood no_schema create_text) ≡ CreateTable) × (statement_of create_text (understood no_schema create_text) ≡ create_text) × (table_defined_by create_text ≡ Ok results)
unfolding understood everything create_text
create_is = (refl, refl, refl)

pub create_plain : IsPlain (understood no_schema create_text)
unfolding understood everything create_text
create_plain = (refl, refl)

pub put_is : command_of (understood results_schema put_text) ≡ put_command
unfolding understood everything put_text
put_is = refl

pub put_plain : IsPlain (understood results_schema put_text)
unfolding understood everything put_text
put_plain = (refl, refl)

pub get_is : (command_of (understood results_schema get_text) ≡ get_command) × (reads_listing results_schema get_text ≡ false)
unfolding understood everything get_text
get_is = (refl, refl)

pub get_plain : IsPlain (understood results_schema get_text)
unfolding understood everything get_text
get_plain = (refl, refl)

pub list_is : (command_of (understood results_schema list_text) ≡ list_command) × (reads_listing results_schema list_text ≡ false)
unfolding understood everything list_text
list_is = (refl, refl)

pub list_plain : IsPlain (understood results_schema list_text)
unfolding understood everything list_text
list_plain = (refl, refl)

pub all_is : (command_of (understood results_schema all_text) ≡ all_command) × (reads_listing results_schema all_text ≡ false)
unfolding understood everything all_text
all_is = (refl, refl)

pub all_plain : IsPlain (understood results_schema all_text)
unfolding understood everything all_text
all_plain = (refl, refl)
