-- Tests and searches over the subterms of terms, part by part.
use Rattle.std.proofs.Common.{◌≡◌, ℕ, ◌+◌, ◌<◌, Bool, true, false, not, ◌&&◌, List, [], ◌∷◌, ◌++◌, Option, Some, None, Ok, Err, Result, Bor, cond, drop, get_or, length, map, option_map, refl, sym, ap, ◌∙◌}
use Rattle.std.specs.Prelude.{IfOk}
use Rattle.std.specs.List.{find, flat_map, list_all}
use Rattle.std.specs.Option.{option_or}
use Rattle.std.proofs.lemmas.List.{at_drop_more}
use Rattle.std.proofs.lemmas.List.Folds.{find-append, list_all-append}
use Rattle.std.specs.declared.alloc.Global.{Global}
use Rattle.std.specs.declared.rc.RcStr.{RcStr}
use Rattle.law_assignments.specs.Assignments.{PlainAssignment}
use Rattle.law_assignments.specs.Covered.{gives}
use Rattle.law_terms.specs.Plain.{PlainTerm, record_fields, terms}
use Rattle.law_terms.specs.Reached.{subterms, subterms_of_all, subterms_of_fields}
use Rattle.smt_term.specs.View.{plain_field, plain_term}
use Rattle.smt_term.specs.declared.term.Term.{Term}
use Rattle.smt_eval.specs.ReaderView.{missing_behind}

-- the subterms of terms one behind the other
abbrev pub within : List Term → List PlainTerm
within ts = subterms_of_all (terms (map plain_term ts))

-- the subterms of the terms of attributes one behind the other
abbrev pub within_fields : List (RcStr Global × Term) → List PlainTerm
within_fields fs = subterms_of_fields (record_fields (map plain_field fs))

pub reached_within : (ts : List PlainTerm) → flat_map subterms ts ≡ subterms_of_all (terms ts)
reached_within [] = refl
reached_within (t ∷ ts) = ap (λ ws. subterms t ++ ws) (reached_within ts)

-- ---- a test of all

module _ (test : PlainTerm → Bool) where
  -- what is left decides
  pub all_next : (ts : List Term) (i : ℕ) (t : Term) → i < length ts → t ≡ get_or ts i t → list_all test (within (drop i ts)) ≡ (list_all test (subterms (plain_term t)) && list_all test (within (drop (i + 1) ts)))
  all_next ts i t l at =
      at_drop_more (λ xs. list_all test (within xs)) ts i t l
      ∙ ap (λ x. list_all test (subterms (plain_term x) ++ within (drop (i + 1) ts))) (sym at)
      ∙ list_all-append test (subterms (plain_term t)) (within (drop (i + 1) ts))

  pub all_next_field : (fs : List (RcStr Global × Term)) (i : ℕ) (f : RcStr Global × Term) → i < length fs → f ≡ get_or fs i f → list_all test (within_fields (drop i fs)) ≡ (list_all test (subterms (plain_term f.1)) && list_all test (within_fields (drop (i + 1) fs)))
  all_next_field fs i f l at =
      at_drop_more (λ xs. list_all test (within_fields xs)) fs i f l
      ∙ ap (λ x. list_all test (subterms (plain_term x.1) ++ within_fields (drop (i + 1) fs))) (sym at)
      ∙ list_all-append test (subterms (plain_term f.1)) (within_fields (drop (i + 1) fs))

  -- a term that passes itself passes with its parts
  pub all_last : (ws : List PlainTerm) (t : PlainTerm) → test t ≡ true → list_all test ws ≡ list_all test (ws ++ t ∷ [])
  all_last ws t h = go (list_all test ws) ∙ sym (list_all-append test ws (t ∷ []))
    where
      go : (b : Bool) → b ≡ (b && (test t && true))
      go true = sym (ap (λ x. x && true) h)
      go false = refl

-- ---- a search for the first

module _ (test : PlainTerm → Bool) where
  pub first_next : (ts : List Term) (i : ℕ) (t : Term) → i < length ts → t ≡ get_or ts i t → find test (within (drop i ts)) ≡ option_or (find test (subterms (plain_term t))) (find test (within (drop (i + 1) ts)))
  first_next ts i t l at =
      at_drop_more (λ xs. find test (within xs)) ts i t l
      ∙ ap (λ x. find test (subterms (plain_term x) ++ within (drop (i + 1) ts))) (sym at)
      ∙ find-append test (subterms (plain_term t)) (within (drop (i + 1) ts))

  pub first_next_field : (fs : List (RcStr Global × Term)) (i : ℕ) (f : RcStr Global × Term) → i < length fs → f ≡ get_or fs i f → find test (within_fields (drop i fs)) ≡ option_or (find test (subterms (plain_term f.1))) (find test (within_fields (drop (i + 1) fs)))
  first_next_field fs i f l at =
      at_drop_more (λ xs. find test (within_fields xs)) fs i f l
      ∙ ap (λ x. find test (subterms (plain_term x.1) ++ within_fields (drop (i + 1) fs))) (sym at)
      ∙ find-append test (subterms (plain_term f.1)) (within_fields (drop (i + 1) fs))

  -- where the first part has one, it is the first
  pub first_here : (ts : List Term) (i : ℕ) (t : Term) (w : PlainTerm) → i < length ts → t ≡ get_or ts i t → find test (within (drop i ts)) ≡ find test (within ts) → Some w ≡ find test (subterms (plain_term t)) → Some w ≡ find test (within ts)
  first_here ts i t w l at g h = sym (sym g ∙ first_next ts i t l at ∙ ap (λ o. option_or o (find test (within (drop (i + 1) ts)))) (sym h))

  pub first_behind : (ts : List Term) (i : ℕ) (t : Term) → i < length ts → t ≡ get_or ts i t → find test (within (drop i ts)) ≡ find test (within ts) → None ≡ find test (subterms (plain_term t)) → find test (within (drop (i + 1) ts)) ≡ find test (within ts)
  first_behind ts i t l at g h = sym (sym g ∙ first_next ts i t l at ∙ ap (λ o. option_or o (find test (within (drop (i + 1) ts)))) (sym h))

  pub first_here_field : (fs : List (RcStr Global × Term)) (i : ℕ) (f : RcStr Global × Term) (w : PlainTerm) → i < length fs → f ≡ get_or fs i f → find test (within_fields (drop i fs)) ≡ find test (within_fields fs) → Some w ≡ find test (subterms (plain_term f.1)) → Some w ≡ find test (within_fields fs)
  first_here_field fs i f w l at g h = sym (sym g ∙ first_next_field fs i f l at ∙ ap (λ o. option_or o (find test (within_fields (drop (i + 1) fs)))) (sym h))

  pub first_behind_field : (fs : List (RcStr Global × Term)) (i : ℕ) (f : RcStr Global × Term) → i < length fs → f ≡ get_or fs i f → find test (within_fields (drop i fs)) ≡ find test (within_fields fs) → None ≡ find test (subterms (plain_term f.1)) → find test (within_fields (drop (i + 1) fs)) ≡ find test (within_fields fs)
  first_behind_field fs i f l at g h = sym (sym g ∙ first_next_field fs i f l at ∙ ap (λ o. option_or o (find test (within_fields (drop (i + 1) fs)))) (sym h))

-- ---- what an assignment does not give

module _ (a : PlainAssignment) where
  abbrev pub is_missing : PlainTerm → Bool
  is_missing w = not (gives a w)

  -- the first of the parts, or else the term itself
  pub first_last : (ws : List PlainTerm) (t : PlainTerm) → find is_missing (ws ++ t ∷ []) ≡ missing_behind a (find is_missing ws) t
  first_last ws t = find-append is_missing ws (t ∷ []) ∙ ap (option_or (find is_missing ws)) (go (gives a t))
    where
      go : (b : Bool) → cond (not b) (Some t) None ≡ cond b None (Some t)
      go true = refl
      go false = refl

  -- what is missing of the parts, in view of a term whose parts they are
  pub behind_parts : {E : Type 0} (r : Result (Option (Bor Term)) E) (ws : List PlainTerm) (t whole : PlainTerm) → t ≡ whole → subterms whole ≡ ws ++ whole ∷ [] → IfOk r (λ m. option_map (λ x. plain_term x.now) m ≡ find is_missing ws)
      → IfOk r (λ m. find is_missing (subterms t) ≡ missing_behind a (option_map (λ x. plain_term x.now) m) t)
  behind_parts (Err e) ws t whole shape parts h = tt
  behind_parts (Ok m) ws t whole shape parts h =
      ap (λ x. find is_missing (subterms x)) shape ∙ ap (find is_missing) parts ∙ first_last ws whole
      ∙ ap (λ o. missing_behind a o whole) (sym h) ∙ ap (missing_behind a (option_map (λ x. plain_term x.now) m)) (sym shape)
