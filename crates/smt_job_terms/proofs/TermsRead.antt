-- Terms as they are read, and built.
use Rattle.std.specs.Rc.{rc_str_bytes}
use Rattle.std.specs.declared.alloc.Global.{Global}
use Rattle.std.specs.declared.rc.RcStr.{RcStr}
use Rattle.std.proofs.Common.{Bor, ◌≡◌, ℕ, ◌+◌, ◌<◌, ◌≤◌, Bool, true, false, List, [], ◌∷◌, ◌++◌, Option, Some, None, Ok, Err, Result, drop, get_or, length, map, option_map, refl, sym, ap, ◌∙◌, subst, arith, append-nil}
use Rattle.std.specs.Bool.{then_some}
use Rattle.std.specs.List.{zip}
use Rattle.std.specs.Option.{ok_or}
use Rattle.std.specs.Prelude.{◌&&◌}
use Rattle.std.proofs.lemmas.List.{at_drop_more, at_drop_all, map-append}
use Rattle.law_terms.specs.Plain.{PlainType, PlainOp, PlainTerm, Application, SomeTerm, terms}
use Rattle.law_terms.specs.TermSets.{set_term}
use Rattle.law_terms.specs.Types.{result_type, type_eq, type_of}
use Rattle.law_terms.specs.Typing.{AreTyped}
use Rattle.law_folding.specs.Built.{built, built_all, folded}
use Rattle.law_folding.specs.FoldRecords.{record_of_pairs}
use Rattle.law_folding.proofs.BuiltTerms.{built_stands}
use Rattle.law_folding.proofs.Standing.{same_type}
use Rattle.smt_term.specs.View.{plain_field, plain_term}
use Rattle.smt_term.specs.declared.term.Term.{Term}
use Rattle.law_texts.specs.Reading.{Expression, Node, Expressions, Nil, Cons}
use Rattle.smt_sexpr.specs.View.{plain, plain_list}
use Rattle.smt_sexpr.specs.declared.expression.SExpr.{SExpr}
use Rattle.law_jobs.specs.Declarations.{Declared}
use Rattle.law_jobs.specs.Outcomes.{JobFault, Outcome, followed, mapped, FormFault, TypingFault}
use Rattle.law_texts.specs.Outcomes.{◌>>=◌, demanded}
use Rattle.law_jobs.specs.Terms.{Present, Elements, Fields, applied, are_of_type, made, second_terms, term_of, terms_of}
use Rattle.law_jobs.proofs.SortedLists.{record_built, set_built}
use Rattle.smt_job_terms.specs.ReadAs.{IsReadAs}
use Rattle.smt_job_terms.specs.TermView.{AreBuilt}
use Rattle.smt_job_terms.specs.declared.error.JobError.{JobError}
use Rattle.smt_job_terms.specs.declared.error.JobError.TheVariants.{IllTyped}
use Rattle.smt_job_terms.proofs.Reading.{behind, fault_behind, nothing_behind, one_behind}

-- ---- what is built of what is stated

abbrev pub built_term : Declared → Expression → Outcome PlainTerm
built_term ds e = mapped built (term_of ds e)

abbrev pub built_terms : Declared → Expressions → Outcome (List PlainTerm)
built_terms ds es = mapped (map built) (terms_of ds es)

abbrev pub built_seconds : Declared → Expressions → Outcome (List PlainTerm)
built_seconds ds es = mapped (map built) (second_terms ds es)

pub built_followed : (o : Outcome PlainTerm) (rest : Outcome (List PlainTerm)) → mapped (map built) (o >>= λ t. followed t rest) ≡ (mapped built o >>= λ b. followed b (mapped (map built) rest))
built_followed (Ok t) (Ok ts) = refl
built_followed (Ok t) (Err f) = refl
built_followed (Err f) rest = refl

-- ---- terms, one after the other

module _ (ds : Declared) where
  -- what is read and what is left are all
  abbrev pub ReadingTerms : (done : List Term) (remaining all : List SExpr) → Type 0
  ReadingTerms done remaining all = built_terms ds (plain_list all) ≡ behind (map plain_term done) (built_terms ds (plain_list remaining))

  pub no_terms_read : (all : List SExpr) → ReadingTerms [] all all
  no_terms_read all = nothing_behind (built_terms ds (plain_list all))

  pub all_terms : (done : List Term) (all : List SExpr) (i : ℕ) → length all ≤ i → ReadingTerms done (drop i all) all → built_terms ds (plain_list all) ≡ Ok (map plain_term done)
  all_terms done all i l g = g ∙ ap (behind (map plain_term done)) (at_drop_all (λ xs. built_terms ds (plain_list xs)) all i l) ∙ ap Ok (append-nil (map plain_term done))

  module _ (done : List Term) (all : List SExpr) (i : ℕ) (item : SExpr) (g : ReadingTerms done (drop i all) all) (l : i < length all) (at : item ≡ get_or all i item) where
    this_term : built_terms ds (plain_list all) ≡ behind (map plain_term done) (built_term ds (plain item) >>= λ b. followed b (built_terms ds (plain_list (drop (i + 1) all))))
    this_term =
        g
        ∙ ap (behind (map plain_term done)) (at_drop_more (λ xs. built_terms ds (plain_list xs)) all i item l
        ∙ ap (λ x. built_terms ds (Cons (plain x) (plain_list (drop (i + 1) all)))) (sym at) ∙ built_followed (term_of ds (plain item)) (terms_of ds (plain_list (drop (i + 1) all))))

    pub term_fault : (f : JobFault) → built_term ds (plain item) ≡ Err f → built_terms ds (plain_list all) ≡ Err f
    term_fault f h = this_term ∙ ap (λ o. behind (map plain_term done) (o >>= λ b. followed b (built_terms ds (plain_list (drop (i + 1) all))))) h

    pub one_term_more : (t : Term) (more : List Term) → built_term ds (plain item) ≡ Ok (plain_term t) → more ≡ done ++ t ∷ [] → ReadingTerms more (drop (i + 1) all) all
    one_term_more t more h is =
        this_term
        ∙ ap (λ o. behind (map plain_term done) (o >>= λ b. followed b (built_terms ds (plain_list (drop (i + 1) all))))) h
        ∙ one_behind (map plain_term done) (plain_term t) (built_terms ds (plain_list (drop (i + 1) all)))
        ∙ ap (λ ts. behind ts (built_terms ds (plain_list (drop (i + 1) all)))) (sym (map-append plain_term done (t ∷ [])) ∙ ap (map plain_term) (sym is))

  -- ---- the second of each pair

  abbrev pub ReadingSeconds : (done : List Term) (remaining all : List SExpr) → Type 0
  ReadingSeconds done remaining all = built_seconds ds (plain_list all) ≡ behind (map plain_term done) (built_seconds ds (plain_list remaining))

  pub no_seconds_read : (all : List SExpr) → ReadingSeconds [] all all
  no_seconds_read all = nothing_behind (built_seconds ds (plain_list all))

  pub all_seconds : (done : List Term) (all : List SExpr) (i : ℕ) → length all ≤ i → ReadingSeconds done (drop i all) all → built_seconds ds (plain_list all) ≡ Ok (map plain_term done)
  all_seconds done all i l g = g ∙ ap (behind (map plain_term done)) (at_drop_all (λ xs. built_seconds ds (plain_list xs)) all i l) ∙ ap Ok (append-nil (map plain_term done))

  pub few_seconds : (xs : List SExpr) → length xs < 2 → (es : Expressions) → built_seconds ds (Cons (Node (plain_list xs)) es) ≡ Err FormFault
  few_seconds [] l es = refl
  few_seconds (x ∷ []) l es = refl
  few_seconds (x ∷ y ∷ xs) l es = absurd (omega (arith, l))

  pub many_seconds : (xs : List SExpr) → 3 ≤ length xs → (es : Expressions) → built_seconds ds (Cons (Node (plain_list xs)) es) ≡ Err FormFault
  many_seconds (x ∷ y ∷ z ∷ xs) l es = refl
  many_seconds [] l es = absurd (omega (arith, l))
  many_seconds (x ∷ []) l es = absurd (omega (arith, l))
  many_seconds (x ∷ y ∷ []) l es = absurd (omega (arith, l))

  module _ (done : List Term) (all : List SExpr) (i : ℕ) (item : SExpr) (g : ReadingSeconds done (drop i all) all) (l : i < length all) (at : item ≡ get_or all i item) where
    this_pair : built_seconds ds (plain_list all) ≡ behind (map plain_term done) (built_seconds ds (Cons (plain item) (plain_list (drop (i + 1) all))))
    this_pair =
        g
        ∙ ap (behind (map plain_term done)) (at_drop_more (λ xs. built_seconds ds (plain_list xs)) all i item l
        ∙ ap (λ x. built_seconds ds (Cons (plain x) (plain_list (drop (i + 1) all)))) (sym at))

    pub no_pair : (e : Expression) → plain item ≡ e → ((es : Expressions) → built_seconds ds (Cons e es) ≡ Err FormFault) → built_seconds ds (plain_list all) ≡ Err FormFault
    no_pair e shape h =
        this_pair ∙ fault_behind (map plain_term done) _ FormFault (ap (λ x. built_seconds ds (Cons x (plain_list (drop (i + 1) all)))) shape ∙ h (plain_list (drop (i + 1) all)))

    module _ (name e : Expression) (shape : plain item ≡ Node (Cons name (Cons e Nil))) where
      by_second : built_seconds ds (plain_list all) ≡ behind (map plain_term done) (built_term ds e >>= λ b. followed b (built_seconds ds (plain_list (drop (i + 1) all))))
      by_second = this_pair ∙ ap (behind (map plain_term done)) (ap (λ x. built_seconds ds (Cons x (plain_list (drop (i + 1) all)))) shape ∙ built_followed (term_of ds e) (second_terms ds (plain_list (drop (i + 1) all))))

      pub second_fault : (f : JobFault) → built_term ds e ≡ Err f → built_seconds ds (plain_list all) ≡ Err f
      second_fault f h = by_second ∙ ap (λ o. behind (map plain_term done) (o >>= λ b. followed b (built_seconds ds (plain_list (drop (i + 1) all))))) h

      pub one_second : (t : Term) (more : List Term) → built_term ds e ≡ Ok (plain_term t) → more ≡ done ++ t ∷ [] → ReadingSeconds more (drop (i + 1) all) all
      one_second t more h is =
          by_second
          ∙ ap (λ o. behind (map plain_term done) (o >>= λ b. followed b (built_seconds ds (plain_list (drop (i + 1) all))))) h
          ∙ one_behind (map plain_term done) (plain_term t) (built_seconds ds (plain_list (drop (i + 1) all)))
          ∙ ap (λ ts. behind ts (built_seconds ds (plain_list (drop (i + 1) all)))) (sym (map-append plain_term done (t ∷ [])) ∙ ap (map plain_term) (sym is))

-- ---- operands that are built

pub types_stay : (ts : List PlainTerm) → AreTyped ts → map type_of (map built ts) ≡ map type_of ts
types_stay [] h = refl
types_stay (t ∷ ts) h = (λ i. (same_type (built t) t (built_stands t h.0) h.0).1 i ∷ types_stay ts h.1 i)

pub all_as_built : (ts : List PlainTerm) → built_all (terms ts) ≡ map built ts
all_as_built [] = refl
all_as_built (t ∷ ts) = ap (λ us. built t ∷ us) (all_as_built ts)

-- the types of operands are those of what is written
pub types_now : (written : List PlainTerm) (now : List Term) → AreBuilt written now → map type_of (map plain_term now) ≡ map type_of written
types_now written now are = ap (map type_of) are.same ∙ types_stay written are.are_typed

pub built_applied : (o : PlainOp) (written : List PlainTerm) (now : List Term) → AreBuilt written now
    → option_map built (applied o written) ≡ option_map (folded o (map plain_term now)) (result_type o (map type_of (map plain_term now)))
built_applied o written now are =
    go (result_type o (map type_of written)) ∙ (λ i. option_map (folded o (sym are.same i)) (result_type o (sym (types_now written now are) i)))
  where
    go : (r : Option PlainType) → option_map built (option_map (Application o (terms written)) r) ≡ option_map (folded o (map built written)) r
    go (Some t) = ap (λ us. Some (folded o us t)) (all_as_built written)
    go None = refl

pub present_made : (written : List PlainTerm) (now : List Term) (t : Term) → AreBuilt written now → 1 ≤ length now → t ≡ get_or now 0 t → mapped built (made Present written) ≡ Ok (SomeTerm (plain_term t))
present_made [] (u ∷ us) t are l e = absurd (let h = are.same in cc)
present_made (w ∷ ws) (u ∷ us) t are l e = (let h : plain_term u ≡ built w = (let s = are.same in cc) in ap (λ x. Ok (SomeTerm x)) (sym h ∙ ap plain_term (sym e)))
present_made written [] t are l e = absurd (omega (arith, l))

pub nothing_present : (written : List PlainTerm) (now : List Term) → AreBuilt written now → length now < 1 → mapped built (made Present written) ≡ Err FormFault
nothing_present [] now are l = refl
nothing_present (w ∷ ws) [] are l = absurd (let h = are.same in cc)
nothing_present (w ∷ ws) (t ∷ ts) are l = absurd (omega (arith, l))

-- whether terms are of a type, by their types
by_types : (ty : PlainType) (ts us : List PlainTerm) → map type_of ts ≡ map type_of us → are_of_type ty ts ≡ are_of_type ty us
by_types ty [] [] e = refl
by_types ty [] (u ∷ us) e = absurd (cc)
by_types ty (t ∷ ts) [] e = absurd (cc)
by_types ty (t ∷ ts) (u ∷ us) e =
    let first : type_of t ≡ type_of u = cc in
    let rest : map type_of ts ≡ map type_of us = cc in
    (λ i. type_eq (first i) ty && by_types ty ts us rest i)

pub same_test : (ty : PlainType) (written : List PlainTerm) (now : List Term) → AreBuilt written now → are_of_type ty (map plain_term now) ≡ are_of_type ty written
same_test ty written now are = by_types ty (map plain_term now) written (types_now written now are)

pub set_made : (ty : PlainType) (written : List PlainTerm) (now : List Term) → AreBuilt written now → are_of_type ty (map plain_term now) ≡ true → mapped built (made (Elements ty) written) ≡ Ok (set_term ty (map plain_term now))
set_made ty written now are h =
    ap (λ b. mapped built (demanded TypingFault (then_some b (set_term ty written)))) (sym (same_test ty written now are) ∙ h)
    ∙ ap Ok (set_built ty written ∙ ap (set_term ty) (sym are.same))

pub no_set : (ty : PlainType) (written : List PlainTerm) (now : List Term) → AreBuilt written now → are_of_type ty (map plain_term now) ≡ false → mapped built (made (Elements ty) written) ≡ Err TypingFault
no_set ty written now are h = ap (λ b. mapped built (demanded TypingFault (then_some b (set_term ty written)))) (sym (same_test ty written now are) ∙ h)

pub record_made : (names : List (List ℕ)) (written : List PlainTerm) (now : List Term) → AreBuilt written now → mapped built (made (Fields names) written) ≡ Ok (record_of_pairs (zip names (map plain_term now)))
record_made names written now are = ap Ok (record_built names written ∙ ap (λ us. record_of_pairs (zip names us)) (sym are.same))

-- what is given, or else the fault of its types
pub given_or : (o : Option Term) (r : Result Term JobError) (a : Option PlainTerm) → r ≡ ok_or o IllTyped → option_map built a ≡ option_map plain_term o → IsReadAs plain_term r (mapped built (demanded TypingFault a))
given_or (Some t) r (Some u) p q = subst (λ (y : Result Term JobError). IsReadAs plain_term y (Ok (built u))) (sym p) (let e : built u ≡ plain_term t = cc in ap Ok e)
given_or (Some t) r None p q = absurd (cc)
given_or None r (Some u) p q = absurd (cc)
given_or None r None p q = subst (λ (y : Result Term JobError). IsReadAs plain_term y (Err TypingFault)) (sym p) refl

-- ---- whether operands are of a type, one after the other

module _ (ty : PlainType) (all : List Term) (i : ℕ) (item : Term) (l : i < length all) (at : item ≡ get_or all i item) where
  pub this_operand : (b : Bool) → type_eq (type_of (plain_term item)) ty ≡ b → are_of_type ty (map plain_term (drop i all)) ≡ (b && are_of_type ty (map plain_term (drop (i + 1) all)))
  this_operand b h =
      at_drop_more (λ xs. are_of_type ty (map plain_term xs)) all i item l
      ∙ ap (λ x. type_eq (type_of (plain_term x)) ty && are_of_type ty (map plain_term (drop (i + 1) all))) (sym at)
      ∙ ap (λ c. c && are_of_type ty (map plain_term (drop (i + 1) all))) h

-- ---- attributes with their operands

abbrev Seen : Type 0
Seen = Bor (RcStr Global) × Bor Term

seen_apart : (ps : List Seen) → map (λ p. (rc_str_bytes p.0.now, plain_term p.1.now)) ps ≡ map plain_field (map (λ p. (p.0.now, p.1.now)) ps)
seen_apart [] = refl
seen_apart (p ∷ ps) = ap (λ qs. (rc_str_bytes p.0.now, plain_term p.1.now) ∷ qs) (seen_apart ps)

zip_plain : (names : List (RcStr Global)) (ts : List Term) → map plain_field (zip names ts) ≡ zip (map rc_str_bytes names) (map plain_term ts)
zip_plain [] ts = refl
zip_plain (n ∷ names) [] = refl
zip_plain (n ∷ names) (t ∷ ts) = ap (λ qs. (rc_str_bytes n, plain_term t) ∷ qs) (zip_plain names ts)

pub zip_seen : (ps : List Seen) (names : List (RcStr Global)) (ts : List Term) → map (λ p. (p.0.now, p.1.now)) ps ≡ zip names ts
    → map (λ p. (rc_str_bytes p.0.now, plain_term p.1.now)) ps ≡ zip (map rc_str_bytes names) (map plain_term ts)
zip_seen ps names ts h = seen_apart ps ∙ ap (map plain_field) h ∙ zip_plain names ts
