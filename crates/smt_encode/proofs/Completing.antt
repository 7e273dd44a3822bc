-- Typed terms as typed meanings.
use Rattle.std.proofs.Common.{◌≡◌, ℕ, zero, suc, IsTrue, List, [], ◌∷◌, drop, map, subst}
use Rattle.law_terms.specs.Plain.{PlainTerm}
use Rattle.law_terms.specs.Typing.{AreTyped}
use Rattle.law_terms.specs.Nodes.{Meaning, TermMeaning}
use Rattle.smt_spelling.specs.Whole.{is_typed}
use Rattle.smt_encode.specs.Complete.{AreTypedMeanings}

-- one of the meanings of a list is typed
pub typed_at : (ms : List Meaning) (i : ℕ) (m : Meaning) (left : List Meaning) → drop i ms ≡ m ∷ left → AreTypedMeanings ms → IsTrue (is_typed m)
typed_at [] zero m left e h = absurd (cc)
typed_at [] (suc i) m left e h = absurd (cc)
typed_at (n ∷ ms) zero m left e h = let same : n ≡ m = cc in subst (λ (k : Meaning). IsTrue (is_typed k)) same h.0
typed_at (n ∷ ms) (suc i) m left e h = typed_at ms i m left e h.1

pub terms_are_typed : (ts : List PlainTerm) → AreTyped ts → AreTypedMeanings (map TermMeaning ts)
terms_are_typed [] h = tt
terms_are_typed (t ∷ ts) h = (h.0, terms_are_typed ts h.1)
