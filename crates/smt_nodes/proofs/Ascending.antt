-- Terms at places that ascend.
use Rattle.std.proofs.Common.{◌≡◌, Bool, true, false, List, ◌∷◌, refl, sym, ap, ◌∙◌, subst}
use Rattle.std.specs.Ordering.{is_lt}
use Rattle.std.specs.Prelude.{◌&&◌, IfSome, Option, Some, None, option_and_then, option_map}
use Rattle.std.specs.declared.cmp.Ordering.{Ordering}
use Rattle.law_terms.specs.Plain.{PlainTerm}
use Rattle.law_terms.specs.TermOrder.{term_cmp}
use Rattle.law_terms.specs.ValueOrder.{ascends, is_below}
use Rattle.law_terms.specs.Meanings.{all_found, found, terms_in}
use Rattle.law_terms.specs.Nodes.{Meaning, TermMeaning}
use Rattle.smt_nodes.specs.Kinds.{terms_at}
use Rattle.smt_nodes.specs.View.{place_of, places_of}
use Rattle.smt_nodes.specs.declared.id.NodeId.{NodeId}

-- a term before terms
below_terms : (t u : PlainTerm) (z : Option (List PlainTerm)) (r : Bool) → r ≡ is_lt (term_cmp t u) → IfSome (option_map (λ us. u ∷ us) z) (λ us. r ≡ is_below term_cmp t us)
below_terms t u None r h = tt
below_terms t u (Some us) r h = h

below_found : (t : PlainTerm) (x : Option Meaning) (y : Option (List Meaning)) (r : Bool) (o : Ordering) → r ≡ is_lt o → ((u : PlainTerm) → x ≡ Some (TermMeaning u) → o ≡ term_cmp t u)
    → IfSome (option_and_then terms_in (option_and_then (λ m. option_map (λ rest. m ∷ rest) y) x)) (λ us. r ≡ is_below term_cmp t us)
below_found t None y r o h f = tt
below_found t (Some m) None r o h f = tt
below_found t (Some (TermMeaning u)) (Some ms) r o h f = below_terms t u (terms_in ms) r (h ∙ ap is_lt (f u refl))
below_found t (Some m) (Some ms) r o h f = tt

pub below : (ms : List (Option Meaning)) (t : PlainTerm) (ids rest : List NodeId) (next : NodeId) (r : Bool) (o : Ordering) → ids ≡ next ∷ rest → r ≡ is_lt o → ((u : PlainTerm) → found ms (place_of next) ≡ Some (TermMeaning u) → o ≡ term_cmp t u)
    → IfSome (terms_at ms (places_of ids)) (λ us. r ≡ is_below term_cmp t us)
below ms t ids rest next r o e h f =
    let P : List NodeId → Type 0 = λ ids. IfSome (terms_at ms (places_of ids)) (λ us. r ≡ is_below term_cmp t us) in
    subst P (sym e) (below_found t (found ms (place_of next)) (all_found ms (places_of rest)) r o h f)

-- a term in front of terms: b says whether it is below them, v whether all ascend
front_terms : (t : PlainTerm) (z : Option (List PlainTerm)) (b v : Bool) → IfSome z (λ us. b ≡ is_below term_cmp t us) → (b ≡ true → IfSome z (λ us. v ≡ ascends term_cmp us)) → (b ≡ false → v ≡ false) → IfSome (option_map (λ us. t ∷ us) z) (λ us. v ≡ ascends term_cmp us)
front_terms t None b v f g h = tt
front_terms t (Some us) true v f g h = g refl ∙ ap (λ c. c && ascends term_cmp us) f
front_terms t (Some us) false v f g h = h refl ∙ ap (λ c. c && ascends term_cmp us) f

front_found : (x : Option Meaning) (y : Option (List Meaning)) (b v : Bool) → ((t : PlainTerm) → x ≡ Some (TermMeaning t) → IfSome (option_and_then terms_in y) (λ us. b ≡ is_below term_cmp t us))
    → (b ≡ true → IfSome (option_and_then terms_in y) (λ us. v ≡ ascends term_cmp us)) → (b ≡ false → v ≡ false)
    → IfSome (option_and_then terms_in (option_and_then (λ m. option_map (λ rest. m ∷ rest) y) x)) (λ us. v ≡ ascends term_cmp us)
front_found None y b v f g h = tt
front_found (Some m) None b v f g h = tt
front_found (Some (TermMeaning t)) (Some ms) b v f g h = front_terms t (terms_in ms) b v (f t refl) g h
front_found (Some m) (Some ms) b v f g h = tt

pub front : (ms : List (Option Meaning)) (ids rest : List NodeId) (first : NodeId) (b v : Bool) → ids ≡ first ∷ rest → ((t : PlainTerm) → found ms (place_of first) ≡ Some (TermMeaning t) → IfSome (terms_at ms (places_of rest)) (λ us. b ≡ is_below term_cmp t us))
    → (b ≡ true → IfSome (terms_at ms (places_of rest)) (λ us. v ≡ ascends term_cmp us)) → (b ≡ false → v ≡ false) → IfSome (terms_at ms (places_of ids)) (λ us. v ≡ ascends term_cmp us)
front ms ids rest first b v e f g h =
    let P : List NodeId → Type 0 = λ ids. IfSome (terms_at ms (places_of ids)) (λ us. v ≡ ascends term_cmp us) in
    subst P (sym e) (front_found (found ms (place_of first)) (all_found ms (places_of rest)) b v f g h)
