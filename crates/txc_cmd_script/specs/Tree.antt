-- Access to the tree of a JSON text.
use Rattle.std.specs.Prelude.{ℕ, suc, Bool, false, List, [], ◌∷◌, Option, Some, None, option_and_then, option_map}
use Rattle.std.specs.Prelude.{if◌then◌else◌, nat_eq}
use Rattle.std.specs.Cmp.Lexicographic.{pointwise}
use Rattle.std.specs.Str.{is_utf8}
use Rattle.serde_json.specs.Data.{Data, null, boolean, number, string, array, object, Items, no_items, item, Members}
use Rattle.serde_json.specs.Data.{no_members, member}
use Rattle.serde_json.specs.Find.{get, as_number, as_u64, as_str, as_array}
use Rattle.serde_json.specs.Read.{read}

-- the tree of a text; none if it is not JSON (serde_json)
unfoldable pub tree_of : List ℕ → Option Data
tree_of bytes = if is_utf8 bytes then read bytes else None

-- the number of members
abbrev pub member_count : Members → ℕ
member_count no_members = 0
member_count (member key value members) = suc (member_count members)

-- the number of keys of an object; 0 if the tree is not an object
abbrev pub key_count : Data → ℕ
key_count null = 0
key_count (boolean b) = 0
key_count (number n) = 0
key_count (string s) = 0
key_count (array items) = 0
key_count (object members) = member_count members

-- the trees of an array, as a list
abbrev pub list_of_items : Items → List Data
list_of_items no_items = []
list_of_items (item tree items) = tree ∷ list_of_items items

-- a whole number
abbrev pub whole : Data → Option ℕ
whole tree = option_and_then as_u64 (as_number tree)

-- the trees of a list
abbrev pub listed : Data → Option (List Data)
listed tree = option_map list_of_items (as_array tree)

-- the whole number at a key
abbrev pub whole_at : List ℕ → Data → Option ℕ
whole_at key tree = option_and_then whole (get key tree)

-- the trees of the list at a key
abbrev pub listed_at : List ℕ → Data → Option (List Data)
listed_at key tree = option_and_then listed (get key tree)

-- whether there is a text, and it is this one
abbrev pub is_the_text : List ℕ → Option (List ℕ) → Bool
is_the_text text None = false
is_the_text text (Some found) = pointwise nat_eq found text

-- whether the tree is this text
abbrev pub is_text : List ℕ → Data → Bool
is_text text tree = is_the_text text (as_str tree)
