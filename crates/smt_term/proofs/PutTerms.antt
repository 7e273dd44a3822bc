-- One step of the loops that put terms, with the terms beside them, into a map, and that look for a term.
use Rattle.std.proofs.Common.{◌≡◌, ℕ, ◌+◌, ◌<◌, List, map, take, drop, length, get_or, Some, cond, sym, ap, ◌∙◌}
use Rattle.std.proofs.lemmas.List.{at_drop_more}
use Rattle.std.specs.BTreeMap.{insert_entry}
use Rattle.std.specs.Map.{lookup}
use Rattle.smt_term.specs.Tables.{plain_entry}
use Rattle.smt_term.proofs.SortedPairs.{pair_put}
use Rattle.smt_term.specs.SortedPairs.{sorted_pairs}
use Rattle.law_terms.proofs.SameTerm.{term_same}
use Rattle.law_terms.proofs.TermTotal.{terms_total}
use Rattle.law_terms.specs.TermOrder.{term_cmp, term_eq}
use Rattle.smt_term.proofs.DerivedOrder.{derived_term_cmp, term_cmp-is}
use Rattle.smt_term.specs.View.{plain_term}
use Rattle.smt_term.specs.declared.term.Term.{Term}

pub entry_put : (items : List (Term × Term)) (i : ℕ) (x : Term × Term) (k v : Term) (found found' : List (Term × Term)) → i < length items → x ≡ get_or items i x
    → plain_term k ≡ plain_term x.0 → plain_term v ≡ plain_term x.1 → found' ≡ insert_entry derived_term_cmp found k v
    → map plain_entry found ≡ sorted_pairs term_cmp (map plain_entry (take i items)) → map plain_entry found' ≡ sorted_pairs term_cmp (map plain_entry (take (i + 1) items))
entry_put = pair_put derived_term_cmp term_cmp plain_term plain_term term_cmp-is terms_total term_same

-- a look-up in the entries that are left tests the first of them
pub entry_next : (t : Term) (items : List (Term × Term)) (i : ℕ) (x : Term × Term) → i < length items → x ≡ get_or items i x
    → lookup (term_eq (plain_term t)) (map plain_entry (drop i items)) ≡ cond (term_eq (plain_term t) (plain_term x.0)) (Some (plain_term x.1)) (lookup (term_eq (plain_term t)) (map plain_entry (drop (i + 1) items)))
entry_next t items i x l at =
    at_drop_more (λ ps. lookup (term_eq (plain_term t)) (map plain_entry ps)) items i x l
    ∙ ap (λ y. cond (term_eq (plain_term t) (plain_term y.0)) (Some (plain_term y.1)) (lookup (term_eq (plain_term t)) (map plain_entry (drop (i + 1) items)))) (sym at)
