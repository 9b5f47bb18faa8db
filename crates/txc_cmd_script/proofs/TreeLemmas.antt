-- Counting and listing what a tree has.
use Rattle.std.proofs.Common.{◌≡◌, refl, sym, ◌∙◌, ap, ℕ, suc, Bool, true, false, List, [], ◌∷◌, map, length, Option}
use Rattle.std.proofs.Common.{Some, None, option_map, if◌then◌else◌, String}
use Rattle.std.proofs.lemmas.List.{length-map}
use Rattle.std.proofs.lemmas.Str.{is_utf8-from_IsUtf8, IsUtf8-from_is_utf8}
use Rattle.std.specs.Str.{is_utf8, IsUtf8}
use Rattle.std.specs.declared.alloc.Global.{Global}
use Rattle.serde_json.specs.Data.{Data, null, boolean, number, string, array, object, Members}
use Rattle.serde_json.specs.Find.{as_object, as_array}
use Rattle.serde_json.specs.Read.{read}
use Rattle.serde_json.specs.View.{view, items_of, items_view, members_of, members_view}
use Rattle.serde_json.specs.declared.value.Value.{Value}
use Rattle.txc_cmd_script.specs.Tree.{tree_of, key_count, member_count, list_of_items, listed}

-- an object's members are counted one by one
member_count-members_of : (es : List (String Global × Data)) → member_count (members_of es) ≡ length es
member_count-members_of [] = refl
member_count-members_of (e ∷ es) = ap (λ n. suc n) (member_count-members_of es)

pub member_count-members_view : (ms : List (String Global × Value)) → member_count (members_view ms) ≡ length ms
member_count-members_view ms =
    member_count-members_of (map (λ m. (m.0, view m.1)) ms)
    ∙ length-map ms (λ (m : String Global × Value). (m.0, view m.1))

pub key_count-object : (d : Data) (ms : Members) → Some ms ≡ as_object d → key_count d ≡ member_count ms
key_count-object null ms h = cc
key_count-object (boolean b) ms h = cc
key_count-object (number n) ms h = cc
key_count-object (string s) ms h = cc
key_count-object (array ds) ms h = cc
key_count-object (object ns) ms h = let e : ns ≡ ms = cc in rw e refl

-- the list of a list's items is that list
pub list_of_items-items_of : (ds : List Data) → list_of_items (items_of ds) ≡ ds
list_of_items-items_of [] = refl
list_of_items-items_of (d ∷ ds) = ap (λ rest. d ∷ rest) (list_of_items-items_of ds)

-- what `as_array` finds, item by item
pub option_map-listed : {X : Type 0} (found : Option X) (values : X → List Value) (d : Data)
    → option_map (λ x. items_view (values x)) found ≡ as_array d
    → option_map (λ x. map view (values x)) found ≡ listed d
option_map-listed None values d h = ap (option_map list_of_items) h
option_map-listed (Some x) values d h = ap Some (sym (list_of_items-items_of (map view (values x))))
    ∙ ap (option_map list_of_items) h

-- a text that is one
pub tree_of-text : (bytes : List ℕ) → IsUtf8 bytes → tree_of bytes ≡ read bytes
unfolding tree_of
tree_of-text bytes h = rw (is_utf8-from_IsUtf8 bytes h) refl

none_at : (b : Bool) (r : Option Data) → (b ≡ true → r ≡ None) → (if b then r else None) ≡ None
none_at true r h = h refl
none_at false r h = refl

-- a text that is none
pub tree_of-none : (bytes : List ℕ) → (IsUtf8 bytes → read bytes ≡ None) → tree_of bytes ≡ None
unfolding tree_of
tree_of-none bytes h = none_at (is_utf8 bytes) (read bytes) (λ t. h (IsUtf8-from_is_utf8 bytes t))

pub ruleset text_rules = (tree_of-text, tree_of-none)
