-- What is written for a value is one value of JSON.
use Rattle.std.proofs.Common.{◌≡◌, ℕ, ◌≤◌, ℤ, List, [], ◌∷◌, ◌++◌, Option, Some, None, refl, ap, ◌∙◌, append_assoc, arith}
use Rattle.json.specs.Json.{Json as Tree, Items, Members, no_items, item, no_members, member}
use Rattle.json.specs.Json as trees
use Rattle.json.specs.Token.{Token, begin_object, end_object, begin_array, end_array, key as key_token}
use Rattle.json.specs.Tree.{json_tokens, items_tokens, members_tokens, depth, items_depth, members_depth}
use Rattle.binary_json.specs.Values.{Scalar, null, boolean, int16, uint16, int32, uint32, int64, uint64, double, string, opaque, Json, scalar, array, object, Entries, no_entries, entry, nesting, entries_nesting}
use Rattle.binary_json.specs.Opaques.{decimal_of, packed_of}
use Rattle.binary_json_lines.specs.Opaques.{string_of, token_of}
use Rattle.binary_json_lines.specs.Parts.{Part, exactly, IsPart, AreParts}
use Rattle.binary_json_lines.specs.Documents.{scalar_part, value_parts, elements_parts, members_parts}

-- ---- parts one after the other

record Split (a b : List Part) (s : List Token) : Type 0 where
  first : List Token
  second : List Token
  is : s ≡ first ++ second
  a_are : AreParts a first
  b_are : AreParts b second

split_parts : (a b : List Part) (s : List Token) → AreParts (a ++ b) s → Split a b s
split_parts [] b s h = record { first = []; second = s; is = refl; a_are = tt; b_are = h }
split_parts (p ∷ a) b [] h = absurd h
split_parts (p ∷ a) b (t ∷ s) h =
    let r = split_parts a b s h.1 in
    record { first = t ∷ r.first; second = r.second; is = ap (λ (l : List Token). t ∷ l) r.is; a_are = (h.0, r.a_are); b_are = r.b_are }

one_token : (p : Part) (s : List Token) → AreParts (p ∷ []) s → (t : Token) × (s ≡ t ∷ []) × IsPart p t
one_token p [] h = absurd h
one_token p (t ∷ []) h = (t, refl, h.0)
one_token p (t ∷ u ∷ s) h = absurd h.1

-- ---- scalars

pub record IsTree (s : List Token) (n : ℕ) : Type 0 where
  pub tree : Tree
  pub is : s ≡ json_tokens tree
  pub shallow : depth tree ≤ n

leaf : (tree : Tree) (t : Token) → t ∷ [] ≡ json_tokens tree → depth tree ≤ 0 → IsTree (t ∷ []) 0
leaf tree t is shallow = record { tree = tree; is = is; shallow = shallow }

alone : (t u : Token) → t ≡ u → t ∷ [] ≡ u ∷ []
alone t u e = ap (λ (x : Token). x ∷ []) e

string_tree : (p : Option ℤ) (column : ℕ) (s : List ℕ) (t : Token) → t ≡ string_of p column s → IsTree (t ∷ []) 0
string_tree (Some p) column s t e = leaf (trees.string _) t (alone t _ e) (omega arith)
string_tree None column s t e = leaf (trees.string _) t (alone t _ e) (omega arith)

opaque_tree : (d : Option (ℕ × ℕ × List ℕ)) (column : ℕ) (s : List ℕ) (t : Token) → t ≡ token_of d column s → IsTree (t ∷ []) 0
opaque_tree (Some d) column s t e = leaf (trees.number _) t (alone t _ e) (omega arith)
opaque_tree None column s t e = string_tree (packed_of column s) column s t e

scalar_tree : (x : Scalar) (t : Token) → IsPart (scalar_part x) t → IsTree (t ∷ []) 0
scalar_tree null t e = leaf trees.null t (alone t _ e) (omega arith)
scalar_tree (boolean b) t e = leaf (trees.boolean b) t (alone t _ e) (omega arith)
scalar_tree (int16 n) t e = leaf (trees.number _) t (alone t _ e) (omega arith)
scalar_tree (uint16 n) t e = leaf (trees.number _) t (alone t _ e) (omega arith)
scalar_tree (int32 n) t e = leaf (trees.number _) t (alone t _ e) (omega arith)
scalar_tree (uint32 n) t e = leaf (trees.number _) t (alone t _ e) (omega arith)
scalar_tree (int64 n) t e = leaf (trees.number _) t (alone t _ e) (omega arith)
scalar_tree (uint64 n) t e = leaf (trees.number _) t (alone t _ e) (omega arith)
scalar_tree (double bits) t e = leaf (trees.number e.0) t (alone t _ e.1) (omega arith)
scalar_tree (string s) t e = leaf (trees.string s) t (alone t _ e) (omega arith)
scalar_tree (opaque column s) t e = opaque_tree (decimal_of column s) column s t e

-- ---- values

-- The items of an array, with the bracket that closes it; the members of an object, so too.
record AreItems (s : List Token) (n : ℕ) : Type 0 where
  items : Items
  is : s ++ end_array ∷ [] ≡ items_tokens items
  shallow : items_depth items ≤ n

record AreMembers (s : List Token) (n : ℕ) : Type 0 where
  members : Members
  is : s ++ end_object ∷ [] ≡ members_tokens members
  shallow : members_depth members ≤ n

-- A token, others, and a last one.
record Enclosed (first last : Token) (parts : List Part) (s : List Token) : Type 0 where
  inner : List Token
  is : s ≡ first ∷ (inner ++ last ∷ [])
  are : AreParts parts inner

enclosed : (first last : Token) (parts : List Part) (s : List Token) → AreParts (exactly first ∷ (parts ++ exactly last ∷ [])) s → Enclosed first last parts s
enclosed first last parts [] h = absurd h
enclosed first last parts (t ∷ s) h =
    let r = split_parts parts (exactly last ∷ []) s h.1 in
    let end = one_token (exactly last) r.second r.b_are in
    let behind : s ≡ r.first ++ last ∷ [] = r.is ∙ ap (λ (l : List Token). r.first ++ l) (end.1 ∙ alone end.0 last end.2) in
    record { inner = r.first; is = ap (λ (x : Token). x ∷ s) h.0 ∙ ap (λ (l : List Token). first ∷ l) behind; are = r.a_are }

mutual
  pub value_tree : (v : Json) (s : List Token) → AreParts (value_parts v) s → IsTree s (nesting v)
  value_tree (scalar x) s h =
      let one = one_token (scalar_part x) s h in
      let r = scalar_tree x one.0 one.2 in
      record { tree = r.tree; is = one.1 ∙ r.is; shallow = r.shallow }
  value_tree (array es) s h =
      let e = enclosed begin_array end_array (elements_parts es) s h in
      let r = elements_items es e.inner e.are in
      record { tree = trees.array r.items; is = e.is ∙ ap (λ (l : List Token). begin_array ∷ l) r.is; shallow = omega (arith, r.shallow) }
  value_tree (object es) s h =
      let e = enclosed begin_object end_object (members_parts es) s h in
      let r = members_of es e.inner e.are in
      record { tree = trees.object r.members; is = e.is ∙ ap (λ (l : List Token). begin_object ∷ l) r.is; shallow = omega (arith, r.shallow) }

  elements_items : (es : Entries) (s : List Token) → AreParts (elements_parts es) s → AreItems s (entries_nesting es)
  elements_items no_entries [] h = record { items = no_items; is = refl; shallow = omega arith }
  elements_items no_entries (t ∷ s) h = absurd h
  elements_items (entry k v es) s h =
      let both = split_parts (value_parts v) (elements_parts es) s h in
      let first = value_tree v both.first both.a_are in
      let others = elements_items es both.second both.b_are in
      record {
        items = item first.tree others.items;
        is = ap (λ (l : List Token). l ++ end_array ∷ []) both.is ∙ append_assoc both.first both.second (end_array ∷ [])
            ∙ ap (λ (l : List Token). l ++ (both.second ++ end_array ∷ [])) first.is ∙ ap (λ (l : List Token). json_tokens first.tree ++ l) others.is;
        shallow = omega (arith, first.shallow, others.shallow);
      }

  members_of : (es : Entries) (s : List Token) → AreParts (members_parts es) s → AreMembers s (entries_nesting es)
  members_of no_entries [] h = record { members = no_members; is = refl; shallow = omega arith }
  members_of no_entries (t ∷ s) h = absurd h
  members_of (entry None v es) s h =
      let r = members_of es s h in
      record { members = r.members; is = r.is; shallow = omega (arith, r.shallow) }
  members_of (entry (Some k) v es) [] h = absurd h
  members_of (entry (Some k) v es) (t ∷ s) h =
      let both = split_parts (value_parts v) (members_parts es) s h.1 in
      let first = value_tree v both.first both.a_are in
      let others = members_of es both.second both.b_are in
      let behind : s ++ end_object ∷ [] ≡ json_tokens first.tree ++ members_tokens others.members =
      ap (λ (l : List Token). l ++ end_object ∷ []) both.is ∙ append_assoc both.first both.second (end_object ∷ [])
      ∙ ap (λ (l : List Token). l ++ (both.second ++ end_object ∷ [])) first.is ∙ ap (λ (l : List Token). json_tokens first.tree ++ l) others.is in
      record {
        members = member k first.tree others.members;
        is = ap (λ (x : Token). x ∷ (s ++ end_object ∷ [])) h.0 ∙ ap (λ (l : List Token). key_token k ∷ l) behind;
        shallow = omega (arith, first.shallow, others.shallow);
      }

pub written_tree : (v : Json) (s : List Token) → AreParts (value_parts v) s → (tree : Tree) × (s ≡ json_tokens tree) × (depth tree ≤ nesting v)
written_tree v s h = let r = value_tree v s h in (r.tree, r.is, r.shallow)
