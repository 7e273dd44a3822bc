-- The entries of tables of enum types, seen by their bytes.
use Rattle.std.proofs.Common.{◌≡◌, ℕ, Bool, true, false, List, [], ◌∷◌, Option, Some, None, cond, is_some, map, option_map, refl, sym, ap, ◌∙◌}
use Rattle.std.proofs.lemmas.Map.Text.{is_eq-slice_cmp}
use Rattle.std.specs.BTreeMap.{insert_entry, is_at}
use Rattle.std.specs.Map.{lookup, update}
use Rattle.std.specs.Prelude.{bytes_eq}
use Rattle.law_terms.proofs.ValueOrder.{text_same}
use Rattle.law_terms.specs.ValueOrder.{text_cmp}
use Rattle.smt_term.specs.Entities.{bytes_of_type}
use Rattle.smt_term.specs.TextSets.{texts_of}
use Rattle.smt_term.specs.contracts.entity.EntityTypeOrd.TheImpl as type_order
use Rattle.smt_term.specs.declared.entity.EntityType.{EntityType}
use Rattle.smt_term.specs.declared.texts.TextSet.{TextSet}
use Rattle.smt_term.proofs.LastPairs.{lookup-put}
use Rattle.smt_term.proofs.SortedPairs.{said-inserted}
use Rattle.std.proofs.lemmas.Cmp.{nat_list_cmp_total}

-- what an entry says
abbrev pub said_entry : EntityType × TextSet → List ℕ × List (List ℕ)
said_entry e = (bytes_of_type e.0, texts_of e.1)

found_entry : (b c : Bool) (s : TextSet) (o : Option (List (List ℕ))) (p : Option TextSet) → b ≡ c → o ≡ option_map texts_of p → cond b (Some (texts_of s)) o ≡ option_map texts_of (cond c (Some s) p)
found_entry true true s o p e h = refl
found_entry false false s o p e h = h
found_entry true false s o p e h = cc
found_entry false true s o p e h = cc

-- the bytes of a type find what the type finds
pub lookup-said : (ety : EntityType) (es : List (EntityType × TextSet)) → lookup (bytes_eq (bytes_of_type ety)) (map said_entry es) ≡ option_map texts_of (lookup (is_at (type_order.ghosts.cmp ety)) es)
lookup-said ety [] = refl
lookup-said ety (e ∷ es) =
    found_entry _ _ e.1 _ _ (sym (is_eq-slice_cmp (bytes_of_type ety) (bytes_of_type e.0))) (lookup-said ety es)

some_mapped : (o : Option TextSet) → is_some (option_map texts_of o) ≡ is_some o
some_mapped None = refl
some_mapped (Some s) = refl

pub is_some-said : (ety : EntityType) (es : List (EntityType × TextSet)) → is_some (lookup (bytes_eq (bytes_of_type ety)) (map said_entry es)) ≡ is_some (lookup (is_at (type_order.ghosts.cmp ety)) es)
is_some-said ety es = ap is_some (lookup-said ety es) ∙ some_mapped (lookup (is_at (type_order.ghosts.cmp ety)) es)

-- a new entry is found by its bytes, and all others as before
pub lookup-entered : (ety : EntityType) (set : TextSet) (es new : List (EntityType × TextSet)) (e : List ℕ) → new ≡ insert_entry type_order.ghosts.cmp es ety set
    → lookup (bytes_eq e) (map said_entry new) ≡ update bytes_eq (λ q. lookup (bytes_eq q) (map said_entry es)) (bytes_of_type ety) (Some (texts_of set)) e
lookup-entered ety set es new e made =
    ap (λ l. lookup (bytes_eq e) (map said_entry l)) made
    ∙ (ap (lookup (bytes_eq e)) (said-inserted type_order.ghosts.cmp text_cmp bytes_of_type texts_of (λ a b. refl) es ety set)
    ∙ lookup-put text_cmp bytes_eq nat_list_cmp_total text_same (λ x y. sym (is_eq-slice_cmp x y)) (bytes_of_type ety) (texts_of set) (map said_entry es) e)

-- a new entry goes to its place among what the entries say
pub said-entered : (ety : EntityType) (set : TextSet) (es new : List (EntityType × TextSet)) → new ≡ insert_entry type_order.ghosts.cmp es ety set → map said_entry new ≡ insert_entry text_cmp (map said_entry es) (bytes_of_type ety) (texts_of set)
said-entered ety set es new made = ap (map said_entry) made ∙ said-inserted type_order.ghosts.cmp text_cmp bytes_of_type texts_of (λ a b. refl) es ety set
