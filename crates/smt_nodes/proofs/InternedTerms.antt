-- Terms that were entered one after the other.
use Rattle.std.proofs.Common.{◌≡◌, ℕ, ◌+◌, ◌<◌, List, [], ◌∷◌, ◌++◌, Some, add-one, get_or, length, map, take, sym, ap, ◌∙◌}
use Rattle.std.proofs.Math.Seq.{take-suc}
use Rattle.std.proofs.lemmas.List.{map-append}
use Rattle.law_terms.specs.Meanings.{all_found, meaning_at, meanings}
use Rattle.law_terms.specs.Nodes.{PlainNode, TermMeaning}
use Rattle.smt_term.specs.View.{plain_term}
use Rattle.smt_term.specs.declared.term.Term.{Term}
use Rattle.smt_nodes.specs.View.{place_of, places_of}
use Rattle.smt_nodes.specs.declared.id.NodeId.{NodeId}
use Rattle.smt_nodes.proofs.Interning.{more_found}

-- one number more, for the next term
pub one_pushed : (ns : List PlainNode) (ids more : List NodeId) (id : NodeId) (ts : List Term) (i : ℕ) (t : Term) → more ≡ ids ++ id ∷ []
    → all_found (meanings ns) (places_of ids) ≡ Some (map TermMeaning (map plain_term (take i ts))) → meaning_at ns (place_of id) ≡ Some (TermMeaning (plain_term t)) → i < length ts → t ≡ get_or ts i t
    → all_found (meanings ns) (places_of more) ≡ Some (map TermMeaning (map plain_term (take (i + 1) ts)))
one_pushed ns ids more id ts i t e h k b s =
    let one : take (i + 1) ts ≡ take i ts ++ t ∷ [] = ap (λ n. take n ts) (add-one i) ∙ (take-suc ts i t b ∙ ap (λ t. take i ts ++ t ∷ []) (sym s)) in
    let terms : map TermMeaning (map plain_term (take (i + 1) ts)) ≡ map TermMeaning (map plain_term (take i ts)) ++ TermMeaning (plain_term t) ∷ [] =
    ap (λ l. map TermMeaning (map plain_term l)) one ∙ (ap (map TermMeaning) (map-append plain_term (take i ts) (t ∷ [])) ∙ map-append TermMeaning (map plain_term (take i ts)) (plain_term t ∷ [])) in
    ap (all_found (meanings ns)) (ap places_of e ∙ map-append place_of ids (id ∷ [])) ∙ (more_found (meanings ns) (places_of ids) _ (place_of id) (TermMeaning (plain_term t)) h k ∙ ap Some (sym terms))
