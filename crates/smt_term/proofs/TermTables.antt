-- The keys of tables of terms ascend.
use Rattle.std.proofs.Common.{◌≡◌, List, [], ◌∷◌, map, refl, sym, ap, ◌∙◌, subst}
use Rattle.std.specs.Map.{keys_of}
use Rattle.std.specs.Prelude.{IsTrue}
use Rattle.law_terms.proofs.SameTerm.{term_same}
use Rattle.law_terms.proofs.TermTotal.{terms_total}
use Rattle.law_terms.specs.Plain.{PlainTerm}
use Rattle.law_terms.specs.TermOrder.{term_cmp, term_eq}
use Rattle.law_terms.specs.ValueOrder.{ascends}
use Rattle.smt_term.specs.Tables.{TermTablesAscend, plain_entry}
use Rattle.smt_term.specs.SortedPairs.{sorted_pairs}
use Rattle.smt_term.proofs.LastPairs.{last_pairs}
use Rattle.smt_term.specs.View.{plain_term}
use Rattle.smt_term.specs.declared.term.Term.{Term}

-- the keys of what pairs say are what the keys say
pub keys-said : (ps : List (Term × Term)) → keys_of (map plain_entry ps) ≡ map (λ p. plain_term p.0) ps
keys-said [] = refl
keys-said (p ∷ ps) = ap (λ l. plain_term p.0 ∷ l) (keys-said ps)

pub term_tables_ascend : TermTablesAscend
term_tables_ascend table = let P : List PlainTerm → Type 0 = λ l. IsTrue (ascends term_cmp l) in subst P (sym (keys-said table.items.value.items)) table.ascending

-- the keys of entries that are pairs in order ascend
pub entries_ascend : (ps : List (Term × Term)) (given : List (PlainTerm × PlainTerm)) → map plain_entry ps ≡ sorted_pairs term_cmp given → IsTrue (ascends term_cmp (map (λ p. plain_term p.0) ps))
entries_ascend ps given made =
    let P : List PlainTerm → Type 0 = λ l. IsTrue (ascends term_cmp l) in
    subst P (ap keys_of (sym made) ∙ keys-said ps) (last_pairs term_cmp term_eq terms_total term_same (λ x y. refl) given).ascending
