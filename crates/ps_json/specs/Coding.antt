-- How a proof stores a tree: each part as a pair of its kind and of what it holds, and back.
use Rattle.std.specs.Prelude.{◌≡◌, ℕ, ◌==◌, List, [], ◌∷◌, Bool, true, false, cond, ℤ, pos, negsuc, refl}
use Rattle.std.specs.Float.{Float, nan, inf, fin}
use Rattle.std.specs.Coded.{Coded, code_by}
use Rattle.serde_json.specs.Data.{Num, unsigned, negative, float, Data, null, boolean, number, string, array, object, Items, no_items, item, Members, no_members, member}
use mathlib.Core.Path.{ap}
use base.Stored.{Gv, gnil, gnum, gcons, num}
use denote.Struct.Codes.{itself}

abbrev code_bool : Bool → Gv
code_bool false = gnum 0
code_bool true = gnum 1

abbrev code_int : ℤ → Gv
code_int (pos n) = gcons (gnum 0) (gnum n)
code_int (negsuc n) = gcons (gnum 1) (gnum n)

abbrev code_float : Float → Gv
code_float nan = gnil
code_float (inf s) = code_bool s
code_float (fin s m e) = gcons (code_bool s) (gcons (gnum m) (code_int e))

abbrev code_num : Num → Gv
code_num (unsigned n) = gcons (gnum 0) (gnum n)
code_num (negative z) = gcons (gnum 1) (code_int z)
code_num (float x) = gcons (gnum 2) (code_float x)

abbrev code_text : List ℕ → Gv
code_text [] = gnil
code_text (n ∷ ns) = gcons (gnum n) (code_text ns)

abbrev mutual
  code_data : Data → Gv
  code_data null = gcons (gnum 0) gnil
  code_data (boolean b) = gcons (gnum 1) (code_bool b)
  code_data (number n) = gcons (gnum 2) (code_num n)
  code_data (string s) = gcons (gnum 3) (code_text s)
  code_data (array ds) = gcons (gnum 4) (code_items ds)
  code_data (object ms) = gcons (gnum 5) (code_members ms)

  code_items : Items → Gv
  code_items no_items = gnil
  code_items (item d ds) = gcons (code_data d) (code_items ds)

  code_members : Members → Gv
  code_members no_members = gnil
  code_members (member k d ms) = gcons (gcons (code_text k) (code_data d)) (code_members ms)

-- ---- and back

abbrev first : Gv → Gv
first gnil = gnil
first (gnum n) = gnil
first (gcons a b) = a

abbrev rest : Gv → Gv
rest gnil = gnil
rest (gnum n) = gnil
rest (gcons a b) = b

abbrev bool_of : Gv → Bool
bool_of g = num g == 1

abbrev int_of : Gv → ℤ
int_of g = cond (num (first g) == 0) (pos (num (rest g))) (negsuc (num (rest g)))

abbrev float_of : Gv → Float
float_of gnil = nan
float_of (gnum n) = inf (n == 1)
float_of (gcons a b) = fin (bool_of a) (num (first b)) (int_of (rest b))

abbrev num_of : Gv → Num
num_of g = cond (num (first g) == 0) (unsigned (num (rest g))) (cond (num (first g) == 1) (negative (int_of (rest g))) (float (float_of (rest g))))

abbrev text_of : Gv → List ℕ
text_of gnil = []
text_of (gnum n) = []
text_of (gcons a b) = num a ∷ text_of b

-- what a code stands for, as a tree, as one behind a name, as items and as members
record Meant : Type 0 where
  tree : Data
  named : Data
  items : Items
  members : Members

abbrev tree_by : ℕ → Gv → Items → Members → Data
tree_by n g ds ms =
    cond (n == 0) null (cond (n == 1) (boolean (bool_of g)) (cond (n == 2) (number (num_of g)) (cond (n == 3) (string (text_of g)) (cond (n == 4) (array ds) (object ms)))))

abbrev meant : Gv → Meant
meant gnil = record { tree = null; named = null; items = no_items; members = no_members }
meant (gnum n) = record { tree = null; named = null; items = no_items; members = no_members }
meant (gcons a b) = record {
  tree = tree_by (num a) b (meant b).items (meant b).members;
  named = (meant b).tree;
  items = item (meant a).tree (meant b).items;
  members = member (text_of (first a)) (meant a).named (meant b).members;
}

bool_back : (b : Bool) → bool_of (code_bool b) ≡ b
bool_back false = refl
bool_back true = refl

int_back : (z : ℤ) → int_of (code_int z) ≡ z
int_back (pos n) = refl
int_back (negsuc n) = refl

float_back : (x : Float) → float_of (code_float x) ≡ x
float_back nan = refl
float_back (inf false) = refl
float_back (inf true) = refl
float_back (fin s m e) = λ i. fin (bool_back s i) m (int_back e i)

num_back : (n : Num) → num_of (code_num n) ≡ n
num_back (unsigned n) = refl
num_back (negative z) = ap negative (int_back z)
num_back (float x) = ap float (float_back x)

text_back : (s : List ℕ) → text_of (code_text s) ≡ s
text_back [] = refl
text_back (n ∷ ns) = ap (λ l. n ∷ l) (text_back ns)

mutual
  pub data_back : (d : Data) → (meant (code_data d)).tree ≡ d
  data_back null = refl
  data_back (boolean b) = ap boolean (bool_back b)
  data_back (number n) = ap number (num_back n)
  data_back (string s) = ap string (text_back s)
  data_back (array ds) = ap array (items_back ds)
  data_back (object ms) = ap object (members_back ms)

  pub items_back : (ds : Items) → (meant (code_items ds)).items ≡ ds
  items_back no_items = refl
  items_back (item d ds) = λ i. item (data_back d i) (items_back ds i)

  pub members_back : (ms : Members) → (meant (code_members ms)).members ≡ ms
  members_back no_members = refl
  members_back (member k d ms) = λ i. member (text_back k i) (data_back d i) (members_back ms i)

-- a tree is stored as its code
abbrev pub coded_data : Coded Data
coded_data = code_by Gv itself code_data (λ g. (meant g).tree) data_back

-- and so are the members of an object
abbrev pub coded_members : Coded Members
coded_members = code_by Gv itself code_members (λ g. (meant g).members) members_back
