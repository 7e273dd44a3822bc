-- What the expressions state that are read without being made.
use Rattle.std.proofs.Common.{◌≡◌, ℕ, ◌+◌, ◌≤◌, List, [], ◌∷◌, ◌++◌, Some, None, Ok, Err, codes, map, refl, sym, ap, ◌∙◌, arith}
use Rattle.std.specs.Bool.{then_some}
use Rattle.std.specs.Prelude.{option_and_then}
use Rattle.law_folding.specs.Built.{built, folded}
use Rattle.law_numbers.specs.Widths.{are_bits, is_width}
use Rattle.law_terms.specs.Plain.{PlainOp, PlainTerm, Application, BitVecLiteral, LiteralTerm, PlainType, VariableTerm, terms}
use Rattle.law_terms.specs.Types.{result_type, type_of}
use Rattle.law_terms.specs.Typing.{AreTyped}
use Rattle.law_terms.proofs.Places.{test_back, then_back}
use Rattle.law_texts.specs.Lexicon.{Begin, End, Name, Number, Text, Word}
use Rattle.law_texts.specs.Reading.{Expression, Leaf, Expressions, Nil, Cons, brackets, deepest, expressions, inside, nesting}
use Rattle.law_texts.specs.Tokens.{Spans}
use Rattle.law_texts.proofs.Spans.{joined}
use Rattle.law_jobs.specs.Declarations.{Declared, declared}
use Rattle.law_jobs.specs.Outcomes.{Outcome, followed}
use Rattle.law_texts.specs.Outcomes.{◌>>=◌}
use Rattle.law_texts.specs.Parts.{text_in}
use Rattle.law_jobs.specs.Terms.{bits_literal, form_of, operator_form, operator_named, term_of, terms_of}
use Rattle.smt_jobs.specs.Direct.{with_head}
use Rattle.smt_job_terms.proofs.FormsRead.{other_form}
use Rattle.smt_job_terms.proofs.TermsRead.{all_as_built, types_stay}

-- ---- variables and literals

module _ (ds : Declared) (points : List ℕ) where
  pub variable_stated : (id : List ℕ) (ty : PlainType) → text_in (Leaf (Text points)) ≡ Some id → declared ds.variables id ≡ Some ty → term_of ds (with_head (codes "var") (Cons (Leaf (Text points)) Nil)) ≡ Ok (VariableTerm id ty)
  variable_stated id ty h d = rw (h, d) refl

-- a literal is built as it is written
pub record IsStatedLiteral (ds : Declared) (w n : ℕ) (t : PlainTerm) : Type 0 where
  pub stated : term_of ds (with_head (codes "bv") (Cons (Leaf (Number w)) (Cons (Leaf (Number n)) Nil))) ≡ Ok t
  pub stays : built t ≡ t

pub bits_stated : (ds : Declared) (w n : ℕ) (t : PlainTerm) → option_and_then (λ w. bits_literal w n) (then_some (is_width w) w) ≡ Some t → IsStatedLiteral ds w n t
bits_stated ds w n t h =
    let (v, e, d) = then_back (λ w. bits_literal w n) (then_some (is_width w) w) t h in
    let (b, s) = test_back (are_bits v n) (LiteralTerm (BitVecLiteral v n)) t d in
    record {
      stated = rw (e, d) refl;
      stays = sym (ap built s) ∙ s;
    }

-- ---- operators

module _ (ds : Declared) (n : List ℕ) (es : Expressions) (o : PlainOp) (named : operator_named n ≡ Some o) where
  no : (m : List ℕ) → operator_named m ≡ None → n ≡ m → ⊥
  no m none e = (let f : Some o ≡ None = sym named ∙ ap operator_named e ∙ none in cc)

  -- none of the heads that are no operators
  named_form : form_of ds n es ≡ operator_form n
  named_form =
      other_form ds n es (no (codes "var") refl) (no (codes "bv") refl) (no (codes "long") refl) (no (codes "entity") refl) (no (codes "decimal") refl) (no (codes "ip") refl) (no (codes "datetime") refl) (no (codes "duration") refl) (no (codes "none") refl) (no (codes "some") refl) (no (codes "set") refl)
      (no (codes "record") refl) (no (codes "zero_extend") refl) (no (codes "record.get") refl) (no (codes "string.like") refl) (no (codes "uuf") refl)

-- what an operator's name states, by what its operands state
pub record IsStatedApplication (ds : Declared) (n : List ℕ) (es : Expressions) (t : PlainTerm) : Type 0 where
  pub written : PlainTerm
  pub stated : term_of ds (with_head n es) ≡ Ok written
  pub is_built : built written ≡ t

pub application_stated : (ds : Declared) (n : List ℕ) (es : Expressions) (o : PlainOp) (ts : List PlainTerm) (ty : PlainType) → operator_named n ≡ Some o → terms_of ds es ≡ Ok ts → AreTyped ts → result_type o (map type_of (map built ts)) ≡ Some ty
    → IsStatedApplication ds n es (folded o (map built ts) ty)
application_stated ds n es o ts ty named operands are given = record {
  written = Application o (terms ts) ty;
  stated = rw (named_form ds n es o named, named, operands, sym (types_stay ts are) ∙ refl, given) refl;
  is_built = ap (λ us. folded o us ty) (all_as_built ts);
}

-- ---- operands, one behind the other

module _ (ds : Declared) (e : Expression) (t : PlainTerm) (this : term_of ds e ≡ Ok t) where
  push : (f : Expression) (fs : List Expression) (o : Outcome PlainTerm) (p q : Outcome (List PlainTerm)) (ts : List PlainTerm) → (o >>= λ u. followed u p) ≡ Ok ts → ((us : List PlainTerm) → p ≡ Ok us → q ≡ Ok (us ++ t ∷ [])) → (o >>= λ u. followed u q) ≡ Ok (ts ++ t ∷ [])
  push f fs (Ok u) (Ok us) q ts h go = ap (followed u) (go us refl) ∙ (let same : u ∷ us ≡ ts = cc in ap (λ l. Ok (l ++ t ∷ [])) same)
  push f fs (Ok u) (Err x) q ts h go = absurd (cc)
  push f fs (Err x) p q ts h go = absurd (cc)

  pub terms_push : (fs : List Expression) (ts : List PlainTerm) → terms_of ds (expressions fs) ≡ Ok ts → terms_of ds (expressions (fs ++ e ∷ [])) ≡ Ok (ts ++ t ∷ [])
  terms_push [] ts h = ap (λ o. o >>= λ u. followed u (Ok [])) this ∙ (let none : [] ≡ ts = cc in ap (λ l. Ok (l ++ t ∷ [])) none)
  terms_push (f ∷ fs) ts h = push f fs (term_of ds f) (terms_of ds (expressions fs)) (terms_of ds (expressions (fs ++ e ∷ []))) ts h (terms_push fs)

-- ---- brackets around

pub bracketed : (src behind rest : List ℕ) (n : List ℕ) (es : Expressions) → Spans src (Begin ∷ Word (Name n) ∷ []) behind → Spans behind (inside es ++ End ∷ []) rest → Spans src (brackets (with_head n es)) rest
bracketed src behind rest n es s t = joined src behind rest (Begin ∷ Word (Name n) ∷ []) (inside es ++ End ∷ []) s t

pub one_deeper : (n : List ℕ) (es : Expressions) (depth inner : ℕ) → deepest es ≤ inner → inner + 1 ≤ depth → nesting (with_head n es) ≤ depth
one_deeper n es depth inner h k = omega arith
