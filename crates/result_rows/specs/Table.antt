-- The table of results, as the statement that makes it defines it.
use Rattle.std.specs.Prelude.{ℕ, true, false, List, [], ◌∷◌, None, codes}
use Rattle.sqlite.specs.Collation.TheVariants.{Binary}
use Rattle.sqlite.specs.declared.types.Value.TheVariants.{Null}
use Rattle.sqlite.specs.Kind.{Kind}
use Rattle.sqlite.specs.Kind.TheVariants.{Integer, Text}
use Rattle.sqlite.specs.Schema.{Schema}
use Rattle.sqlite.specs.Table.{Table}
use Rattle.sqlite.specs.Change.{created}
use Rattle.sqlite_schema.specs.declared.schema.Column.{Column}
use Rattle.sqlite_schema.specs.declared.schema.Index.{Index}

-- a column that takes values of its kind alone, and no NULL
abbrev pub field : List ℕ → Kind → Column
field name kind = record { name = name; kind = kind; is_strict = true; not_null = true; default = Null; collation = Binary }

-- `id`, `since`, `latest`, `good` and `body`, none of which may be NULL; no two rows have one `id`
abbrev pub results : Table
results = record {
  name = codes "result";
  tree = 0;
  columns = field (codes "id") Text ∷ field (codes "since") Integer ∷ field (codes "latest") Integer ∷ field (codes "good") Integer ∷ field (codes "body") Text ∷ [];
  key = None;
  primary = 1 ∷ [];
  uniques = (1 ∷ []) ∷ [];
  orders = (record { digits = 0 }) ∷ [];
  checks = [];
  references = [];
  computed = [];
  stamps = record { places = []; terms = []; formats = [] };
  is_counted = false;
}

-- the index by `id`, which a key gets by itself
abbrev pub results_index : Index
results_index = record { name = codes "sqlite_autoindex_result_1"; tree = 1; table = 0; columns = 1 ∷ []; order = record { digits = 0 }; is_unique = true }

abbrev pub no_schema : Schema
no_schema = record { tables = []; indexes = []; views = [] }

-- that table alone, with its index by `id`
abbrev pub results_schema : Schema
results_schema = created no_schema results
