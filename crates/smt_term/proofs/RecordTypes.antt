-- The attributes of record types are those of their maps.
use Rattle.std.proofs.Common.{◌≡◌, ℕ, Bool, true, false, cond, List, [], ◌∷◌, Option, Some, None, option_map, refl, ap, ◌∙◌}
use Rattle.std.specs.Map.{lookup}
use Rattle.std.specs.Prelude.{bytes_eq, is_some}
use Rattle.law_terms.specs.Plain.{PlainType, attribute_types}
use Rattle.law_terms.specs.Types.{attribute_in, attribute_type}
use Rattle.smt_term.specs.TypeView.{plain_attributes, plain_type, plain_type-Record}
use Rattle.smt_term.specs.declared.type_maps.TypeMap.{TypeMap}
use Rattle.smt_term.specs.declared.types.TermType.{TermType, Record}

chosen : (b : Bool) (t o p : Option PlainType) → o ≡ p → elim b as (λ _. Option PlainType) [ true ↦ t | false ↦ o ] ≡ cond b t p
chosen true t o p h = refl
chosen false t o p h = h

attribute-looked : (x : List ℕ) (ps : List (List ℕ × PlainType)) → attribute_in x (attribute_types ps) ≡ lookup (bytes_eq x) ps
attribute-looked x [] = refl
attribute-looked x (p ∷ ps) = chosen (bytes_eq x p.0) (Some p.1) (attribute_in x (attribute_types ps)) (lookup (bytes_eq x) ps) (attribute-looked x ps)

-- the type of an attribute is the one that the map has
pub attribute_found : (x : List ℕ) (t : TermType) (m : TypeMap) → t ≡ Record m → attribute_type x (plain_type t) ≡ lookup (bytes_eq x) (plain_attributes m)
attribute_found x t m is = ap (λ u. attribute_type x (plain_type u)) is ∙ (ap (attribute_type x) (plain_type-Record m) ∙ attribute-looked x (plain_attributes m))

pub is_some-mapped : {A B : Type 0} (f : A → B) (o : Option A) → is_some o ≡ is_some (option_map f o)
is_some-mapped f None = refl
is_some-mapped f (Some x) = refl
