-- Ids that are declared one behind the other.
use Rattle.std.proofs.Common.{◌≡◌, ℕ, ◌+◌, ◌<◌, ◌≤◌, Bool, true, false, cond, List, [], ◌∷◌, ◌++◌, Option, Some, None, bytes_eq, drop, get_or, length, option_map, refl, sym, ap, ◌∙◌, subst, inl, inr, Ok, Err, Result}
use Rattle.std.specs.Map.{lookup}
use Rattle.std.specs.Prelude.{IsErrAnd, IsOkUnless, OnOk, is_none}
use Rattle.std.specs.Rc.{rc_str_bytes}
use Rattle.std.specs.declared.alloc.Global.{Global}
use Rattle.std.specs.declared.rc.RcStr.{RcStr}
use Rattle.std.proofs.lemmas.Bool.{cases_Bool, false≢true}
use Rattle.std.proofs.lemmas.List.{at_drop_more, at_drop_all}
use Rattle.std.proofs.lemmas.Slice.Eq.{bytes_eq-Decides}
use Rattle.law_lines.proofs.Making.{lookup_new, lookup_other}
use Rattle.law_texts.specs.Reading.{Expression, Cons}
use Rattle.smt_sexpr.specs.View.{plain, plain_list}
use Rattle.smt_sexpr.specs.declared.expression.SExpr.{SExpr}
use Rattle.law_jobs.specs.Outcomes.{Outcome}
use Rattle.law_texts.specs.Outcomes.{◌>>=◌}
use Rattle.law_jobs.specs.Declarations.{Declarations, declared, declared_by}
use Rattle.smt_job_terms.specs.DeclarationView.{DeclaresNext}
use Rattle.smt_job_terms.specs.ReadAs.{IsFaultIn, IsReadAs}
use Rattle.smt_job_terms.specs.declared.error.JobError.{JobError}
use Rattle.smt_job_terms.specs.declared.error.JobError.TheVariants.{TooLarge, Parse, TooDeep, BadForm, UnknownName, DuplicateName, BadType, BadWidth, BadLiteral, IllTyped, NotBool, Unbalanced, Memory}
use Rattle.smt_job_terms.proofs.Reading.{passes_on}

other_bytes : (xs ys : List ℕ) → bytes_eq xs ys ≡ false → bytes_eq ys xs ≡ false
other_bytes xs ys h = elim (cases_Bool (bytes_eq ys xs)) [
  | inl same ↦ absurd (false≢true (sym h ∙ (bytes_eq-Decides xs ys).1 (sym ((bytes_eq-Decides ys xs).0 same))))
  | inr other ↦ other
]

-- what the table has for an id after one more is entered, by whether it is that id
pub declared_after : {A B : Type 0} (view : A → B) (b : Bool) (key q : RcStr Global) (k : List ℕ) (x : A) (y : B) (before : Option A) (ds : Declarations B)
    → bytes_eq (rc_str_bytes key) (rc_str_bytes q) ≡ b → rc_str_bytes key ≡ k → view x ≡ y → declared ds k ≡ None → option_map view before ≡ declared ds (rc_str_bytes q)
    → option_map view (cond b (Some x) before) ≡ declared (ds ++ (k, y) ∷ []) (rc_str_bytes q)
declared_after view true key q k x y before ds tied same seen absent had =
    let e : k ≡ rc_str_bytes q = sym same ∙ (bytes_eq-Decides (rc_str_bytes key) (rc_str_bytes q)).0 tied in
    let f : declared ds (rc_str_bytes q) ≡ None = ap (declared ds) (sym e) ∙ absent in
    ap Some seen ∙ sym (lookup_new (bytes_eq (rc_str_bytes q)) ds k y ((bytes_eq-Decides (rc_str_bytes q) k).1 (sym e)) f)
declared_after view false key q k x y before ds tied same seen absent had =
    had ∙ sym (lookup_other (bytes_eq (rc_str_bytes q)) ds k y (subst (λ (z : List ℕ). bytes_eq (rc_str_bytes q) z ≡ false) same (other_bytes (rc_str_bytes key) (rc_str_bytes q) tied)))

-- entering what is stated
pub declares_next : {B : Type 0} (has : Declarations B → Type 0) (ds : Declarations B) (d : List ℕ × B) (stated : Outcome (List ℕ × B)) (r : Result (Unit {0}) JobError) → stated ≡ Ok d
    → OnOk r (has (ds ++ d ∷ [])) → IsOkUnless r Memory → DeclaresNext has ds stated r
declares_next has ds d stated (Ok u) p q r = (d, p, q)
declares_next has ds d stated (Err Memory) p q r = tt
declares_next has ds d stated (Err TooLarge) p q r = absurd (cc)
declares_next has ds d stated (Err (Parse f)) p q r = absurd (cc)
declares_next has ds d stated (Err TooDeep) p q r = absurd (cc)
declares_next has ds d stated (Err BadForm) p q r = absurd (cc)
declares_next has ds d stated (Err (UnknownName n)) p q r = absurd (cc)
declares_next has ds d stated (Err (DuplicateName n)) p q r = absurd (cc)
declares_next has ds d stated (Err BadType) p q r = absurd (cc)
declares_next has ds d stated (Err BadWidth) p q r = absurd (cc)
declares_next has ds d stated (Err (BadLiteral n)) p q r = absurd (cc)
declares_next has ds d stated (Err IllTyped) p q r = absurd (cc)
declares_next has ds d stated (Err NotBool) p q r = absurd (cc)
declares_next has ds d stated (Err Unbalanced) p q r = absurd (cc)

-- ---- one after the other

module _ {S B : Type 0} (has : S → Declarations B → Type 0) (listed : S → Declarations B) (lists : (s : S) (ds : Declarations B) → has s ds → listed s ≡ ds) (of : Declarations B → Expression → Outcome (List ℕ × B)) where
  -- what is declared so far and what is left are all
  pub record Declaring (s : S) (remaining all : List SExpr) : Type 0 where
    pub declares : has s (listed s)
    pub whole : declared_by of [] (plain_list all) ≡ declared_by of (listed s) (plain_list remaining)

  itself : (s : S) (ds : Declarations B) → has s ds → has s (listed s)
  itself s ds h = subst (λ (x : Declarations B). has s x) (sym (lists s ds h)) h

  pub none_declared : (s : S) (all : List SExpr) → has s [] → Declaring s all all
  none_declared s all h = record { declares = itself s [] h; whole = ap (λ ds. declared_by of ds (plain_list all)) (sym (lists s [] h)) }

  pub all_declared : (s : S) (all : List SExpr) (i : ℕ) → length all ≤ i → Declaring s (drop i all) all → declared_by of [] (plain_list all) ≡ Ok (listed s)
  all_declared s all i l g = g.whole ∙ at_drop_all (λ xs. declared_by of (listed s) (plain_list xs)) all i l

  module _ (s : S) (all : List SExpr) (i : ℕ) (e : SExpr) (g : Declaring s (drop i all) all) (l : i < length all) (at : e ≡ get_or all i e) where
    this_one : declared_by of [] (plain_list all) ≡ (of (listed s) (plain e) >>= λ d. declared_by of (listed s ++ d ∷ []) (plain_list (drop (i + 1) all)))
    this_one = g.whole ∙ at_drop_more (λ xs. declared_by of (listed s) (plain_list xs)) all i e l ∙ ap (λ x. declared_by of (listed s) (Cons (plain x) (plain_list (drop (i + 1) all)))) (sym at)

    pub next_declared : (now : S) → DeclaresNext {A = Unit {0}} (has now) (listed s) (of (listed s) (plain e)) (Ok tt) → Declaring now (drop (i + 1) all) all
    next_declared now p = record {
      declares = itself now (listed s ++ p.0 ∷ []) p.2;
      whole = this_one ∙ ap (λ o. o >>= λ d. declared_by of (listed s ++ d ∷ []) (plain_list (drop (i + 1) all))) p.1 ∙ ap (λ ds. declared_by of ds (plain_list (drop (i + 1) all))) (sym (lists now (listed s ++ p.0 ∷ []) p.2));
    }

    pub not_declared : {A : Type 0} (error : JobError) (r : Result A JobError) (view : A → Declarations B) → IsFaultIn error (of (listed s) (plain e)) → IsErrAnd r (λ y. y ≡ error) → IsReadAs view r (declared_by of [] (plain_list all))
    not_declared error r view p h =
        passes_on view r error _ (of (listed s) (plain e)) h p (λ f fault. this_one ∙ ap (λ o. o >>= λ d. declared_by of (listed s ++ d ∷ []) (plain_list (drop (i + 1) all))) fault)

-- ---- ids that may stand twice

-- what is found stays found, whatever stands behind
lookup_kept : {K X : Type 0} (test : K → Bool) (es : List (K × X)) (d : K × X) → is_none (lookup test es) ≡ false → lookup test (es ++ d ∷ []) ≡ lookup test es
lookup_kept test [] d h = absurd (cc)
lookup_kept {X = X} test (e ∷ es) d h = go (test e.0) (lookup_kept test es d) h
  where
    go : (b : Bool) → (is_none (lookup test es) ≡ false → lookup test (es ++ d ∷ []) ≡ lookup test es) → is_none (cond b (Some e.1) (lookup test es)) ≡ false → cond b (Some e.1) (lookup test (es ++ d ∷ [])) ≡ cond b (Some e.1) (lookup test es)
    go true again h = refl
    go false again h = again h

none_as_seen : {A B : Type 0} (view : A → B) (o : Option A) → is_none (option_map view o) ≡ is_none o
none_as_seen view (Some a) = refl
none_as_seen view None = refl

-- of declarations with one id the first counts
pub declared_again : {A B : Type 0} (view : A → B) (o : Option A) (ds : Declarations B) (k : List ℕ) (y : B) → option_map view o ≡ declared ds k → is_none o ≡ false → (q : List ℕ) → declared (ds ++ (k, y) ∷ []) q ≡ declared ds q
declared_again view o ds k y found some q = elim (cases_Bool (bytes_eq q k)) [
  | inl same ↦ lookup_kept (bytes_eq q) ds (k, y) (ap (λ x. is_none (declared ds x)) ((bytes_eq-Decides q k).0 same) ∙ ap is_none (sym found) ∙ none_as_seen view o ∙ some)
  | inr other ↦ lookup_other (bytes_eq q) ds k y other
]
