-- Names lead back to what they stand for.
use Rattle.std.proofs.Common.{◌≡◌, ℕ, Bool, true, false, cond, List, [], ◌∷◌, refl, sym, ap, ◌∙◌, inl, inr}
use Rattle.std.specs.Prelude.{bytes_eq, codes, Some, None, unwrap_or}
use Rattle.std.specs.Map.{lookup}
use Rattle.std.proofs.lemmas.Slice.Eq.{bytes_eq-Decides}
use Rattle.std.specs.Option.{option_or}
use mathlib.Core.Logic.{⊎_elim}
use Rattle.law_terms.specs.Plain.{PlainType, OptionType, BitVecType, BoolType, EntityType, ExtensionType, StringType, RecordType, SetType, PlainFunction, PlainTerm}
use Rattle.law_terms.specs.Types.{type_eq}
use Rattle.law_terms.specs.Interpretations.{function_eq}
use Rattle.law_terms.specs.TermOrder.{term_eq}
use Rattle.law_terms.specs.TypeValues.{Enums}
use Rattle.law_scripts.specs.Script.{name}
use Rattle.law_scripts.specs.Sorts.{Entries}
use Rattle.law_lines.specs.NameTables.{Tables, name_of_type}
use Rattle.law_lines.specs.Naming.{type_name, HasEntry, HasDistinctNames, type_sort}
use Rattle.law_theorem.specs.Carry.{key_of}
use Rattle.law_terms.proofs.TermTotal.{types_decided, functions_decided, terms_decided}
use Rattle.law_theorem.specs.CarriedSorts.{IsNamed, TypeIsDeclared}
use Rattle.law_theorem.specs.CarriedInterpretations.{wrapped_type, type_of_sort, TypeIsNamed}
use Rattle.law_scripts.specs.DeclarationLines.{Constructors}

module _ {K : Type 0} (test : K → Bool) (k : K) (sound : (x : K) → test x ≡ true → k ≡ x) where
  entry_found : (es : List (K × List ℕ)) (n : List ℕ) → lookup test es ≡ Some n → HasEntry es k n
  entry_found [] n h = absurd cc
  entry_found (e ∷ es) n h = by (test e.0) refl h (entry_found es n)
    where
      by : (b : Bool) → test e.0 ≡ b → cond b (Some e.1) (lookup test es) ≡ Some n → (lookup test es ≡ Some n → HasEntry es k n) → HasEntry (e ∷ es) k n
      by true f g again = inl (sym (sound e.0 f), ap (λ o. unwrap_or o e.1) g)
      by false f g again = inr (again g)

  key_there : (es : List (K × List ℕ)) (l : K) (n : List ℕ) → HasEntry es l n → (m : K) × (key_of es n ≡ Some m) × HasEntry es m n
  key_there [] l n h = absurd h
  key_there (e ∷ es) l n h = by (bytes_eq e.1 n) refl h (key_there es l n)
    where
      by : (b : Bool) → bytes_eq e.1 n ≡ b → HasEntry (e ∷ es) l n → (HasEntry es l n → (m : K) × (key_of es n ≡ Some m) × HasEntry es m n) → (m : K) × (cond b (Some e.0) (key_of es n) ≡ Some m) × HasEntry (e ∷ es) m n
      by true f g again = (e.0, refl, inl (refl, (bytes_eq-Decides e.1 n).0 f))
      by false f g again =
          ⊎_elim (λ p. absurd (let z : true ≡ false = sym ((bytes_eq-Decides e.1 n).1 p.1) ∙ f in cc))
          (λ p. let r : (m : K) × (key_of es n ≡ Some m) × HasEntry es m n = again p in (r.0, r.1, inr r.2)) g

  pub key_found : (es : List (K × List ℕ)) (n : List ℕ) → HasDistinctNames es → lookup test es ≡ Some n → key_of es n ≡ Some k
  key_found es n distinct h =
      let r : (m : K) × (key_of es n ≡ Some m) × HasEntry es m n = key_there es k n (entry_found es n h) in
      r.1 ∙ ap Some (distinct n r.0 k r.2 (entry_found es n h))

pub term_keyed : (s : Tables) (t : PlainTerm) (n : List ℕ) → HasDistinctNames s.terms → lookup (term_eq t) s.terms ≡ Some n → key_of s.terms n ≡ Some t
term_keyed s t n d h = key_found (term_eq t) t (λ x e. (terms_decided t x).0 e) s.terms n d h

pub function_keyed : (s : Tables) (f : PlainFunction) (n : List ℕ) → HasDistinctNames s.functions → lookup (function_eq f) s.functions ≡ Some n → key_of s.functions n ≡ Some f
function_keyed s f n d h = key_found (function_eq f) f (λ x e. (functions_decided f x).0 e) s.functions n d h

module _ (enums : Enums) (s : Tables) (here : Entries) (distinct : HasDistinctNames s.types) where
  own_name : (t : PlainType) (n : List ℕ) (cs : Constructors) → IsNamed here n cs → name_of_type s t ≡ Some n → type_of_sort s (name n) ≡ Some t
  own_name t n cs d h =
      (λ i. option_or (cond (d.not_bool i) (Some BoolType) (cond (d.not_string i) (Some StringType) None)) (key_of s.types n))
      ∙ key_found (type_eq t) t (λ x e. (types_decided t x).0 e) s.types n distinct h

  pub sort_shows : (t : PlainType) → TypeIsDeclared enums s here t → TypeIsNamed s t → type_of_sort s (type_sort s t) ≡ Some t
  sort_shows (OptionType t) d h = ap (wrapped_type (name (codes "Option"))) (sort_shows t d h)
  sort_shows (BitVecType n) d h = refl
  sort_shows BoolType d h = refl
  sort_shows (EntityType e) d h = own_name (EntityType e) (type_name s (EntityType e)) _ d h
  sort_shows (ExtensionType kind) d h = own_name (ExtensionType kind) (type_name s (ExtensionType kind)) _ d h
  sort_shows StringType d h = refl
  sort_shows (RecordType x) d h = own_name (RecordType x) (type_name s (RecordType x)) _ d.0 h
  sort_shows (SetType t) d h = ap (wrapped_type (name (codes "Set"))) (sort_shows t d h)
