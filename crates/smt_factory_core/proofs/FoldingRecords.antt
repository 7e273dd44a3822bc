-- What the code finds of records, in the words of the foldings, and that this stands for what was asked for.
use Rattle.std.proofs.Common.{◌≡◌, ℕ, false, List, [], ◌∷◌, map, refl, ap, ◌∙◌, sym, subst}
use Rattle.std.specs.Map.{lookup}
use Rattle.std.specs.Option.{unwrap_or}
use Rattle.std.specs.Prelude.{bytes_eq, Option, Some, None}
use Rattle.std.specs.declared.alloc.Global.{Global}
use Rattle.std.specs.declared.rc.RcStr.{RcStr}
use Rattle.std.proofs.lemmas.Cmp.{nat_list_cmp_total}
use Rattle.std.proofs.lemmas.Map.Text.{is_eq-slice_cmp}
use Rattle.law_folding.specs.Applications.{record_get_of}
use Rattle.law_folding.specs.FoldRecords.{folded_record_get, record_of_pairs}
use Rattle.law_folding.specs.Parts.{is_record_term}
use Rattle.law_folding.specs.RecordOf.{IsRecordOf}
use Rattle.law_folding.specs.Refinement.{Refines}
use Rattle.law_folding.proofs.RecordOfFields.{field_looked, record_of_typed}
use Rattle.law_folding.proofs.RecordsStand.{stands_record_get}
use Rattle.law_terms.specs.Plain.{PlainType, RecordGetOp, PlainTerm, Application, RecordTerm, terms, record_fields}
use Rattle.law_terms.specs.Types.{attribute_type, type_of}
use Rattle.law_terms.specs.Typing.{AreTyped}
use Rattle.law_terms.specs.ValueOrder.{text_cmp}
use Rattle.law_terms.proofs.ValueOrder.{text_same}
use Rattle.smt_term.specs.SortedPairs.{AreLastPairs, sorted_pairs}
use Rattle.smt_term.proofs.LastPairs.{last_pairs}
use Rattle.smt_term.specs.View.{plain_field, plain_fields, plain_term, plain_term-Record}
use Rattle.smt_term.specs.declared.maps.TermMap.{TermMap}
use Rattle.smt_term.specs.declared.term.Term.{Term, Record}
use Rattle.smt_term.proofs.RecordTypes.{attribute_found}

-- ---- the record of pairs

pub record-sorted : (m : TermMap) (ps : List (List ℕ × PlainTerm)) → plain_fields m ≡ sorted_pairs text_cmp ps → plain_term (Record m) ≡ record_of_pairs ps
record-sorted m ps e = plain_term-Record m ∙ ap (λ qs. RecordTerm (record_fields qs)) e

terms_typed : (ps : List (RcStr Global × Term)) → AreTyped (map (λ p. plain_term p.1) ps) → AreTyped (map (λ q. q.1) (map plain_field ps))
terms_typed [] h = tt
terms_typed (p ∷ ps) h = (h.0, terms_typed ps h.1)

-- of typed terms it has for each attribute the value of the last
pub record-has : (m : TermMap) (ps : List (RcStr Global × Term)) → plain_fields m ≡ sorted_pairs text_cmp (map plain_field ps) → AreTyped (map (λ p. plain_term p.1) ps) → IsRecordOf (map plain_field ps) (plain_term (Record m))
record-has m ps e h =
    let qs : List (List ℕ × PlainTerm) = map plain_field ps in
    let last : AreLastPairs text_cmp bytes_eq qs (sorted_pairs text_cmp qs) = last_pairs text_cmp bytes_eq nat_list_cmp_total text_same (λ x y. sym (is_eq-slice_cmp x y)) qs in
    subst (λ (r : PlainTerm). IsRecordOf qs r) (sym (record-sorted m qs e)) (record_of_typed qs last.last (terms_typed ps h))

-- ---- the attribute of a record

pub folded_record_get-found : (t u : PlainTerm) (ps : List (List ℕ × PlainTerm)) (x : List ℕ) → t ≡ RecordTerm (record_fields ps) → Some u ≡ lookup (bytes_eq x) ps → folded_record_get t x ≡ u
folded_record_get-found t u ps x is e = ap (λ v. folded_record_get v x) is ∙ ap (λ o. unwrap_or o (RecordTerm (record_fields ps))) (field_looked x ps ∙ sym e)

pub folded_record_get-lacking : (t : PlainTerm) (ps : List (List ℕ × PlainTerm)) (x : List ℕ) → t ≡ RecordTerm (record_fields ps) → None ≡ lookup (bytes_eq x) ps → folded_record_get t x ≡ t
folded_record_get-lacking t ps x is e = ap (λ v. folded_record_get v x) is ∙ (ap (λ o. unwrap_or o (RecordTerm (record_fields ps))) (field_looked x ps ∙ sym e) ∙ sym is)

abbrev by_type : PlainTerm → List ℕ → Option PlainType → PlainTerm
by_type t x o = elim o [ Some ty ↦ record_get_of t x | None ↦ t ]

by_type-given : (t : PlainTerm) (x : List ℕ) → is_record_term t ≡ false → folded_record_get t x ≡ by_type t x (attribute_type x (type_of t))
by_type-given (RecordTerm fs) x h = cc
by_type-given t x h = refl

pub folded_record_get-asked : (t : PlainTerm) (x : List ℕ) (ty : PlainType) → is_record_term t ≡ false → attribute_type x (type_of t) ≡ Some ty → folded_record_get t x ≡ Application (RecordGetOp x) (terms (t ∷ [])) ty
folded_record_get-asked t x ty h e =
    by_type-given t x h ∙ (ap (by_type t x) e ∙ ap (λ o. Application (RecordGetOp x) (terms (t ∷ [])) (unwrap_or o (type_of t))) e)

pub folded_record_get-other : (t : PlainTerm) (x : List ℕ) → is_record_term t ≡ false → attribute_type x (type_of t) ≡ None → folded_record_get t x ≡ t
folded_record_get-other t x h e = by_type-given t x h ∙ ap (by_type t x) e

pub stands_for_record_get : (r t : PlainTerm) (x : List ℕ) → r ≡ folded_record_get t x → Refines r (record_get_of t x)
stands_for_record_get r t x e = subst (λ (u : PlainTerm). Refines u (record_get_of t x)) (sym e) (stands_record_get t x)

pub ruleset recording = (record-sorted, folded_record_get-found, folded_record_get-lacking, folded_record_get-asked, folded_record_get-other, stands_for_record_get, attribute_found)
