-- Links that have at least answered some checks.
use Rattle.std.proofs.Common.{◌≡◌, ℕ, IsTrue, List, [], ◌∷◌, ◌++◌, Option, Some, None, refl, sym, ap, ◌∙◌, subst, append_assoc, append-nil}
use Rattle.std.specs.Io.KnownBytes.{append_known}
use Rattle.std.specs.Prelude.{IfSome, is_some}
use Rattle.smt_solve.specs.Link.{AllowsOnly, LinkState}
use Rattle.smt_solve.specs.Question.{BeginsExchange}
use Rattle.law_verdicts.specs.Dialogues.{AnsweredCheck, AreAllowed, GaveAllowed, HasAnswered, read_for, sent_for}
use Rattle.law_verdicts.specs.Verdicts.{logic_text}
use Rattle.smt_runs.specs.Asking.{HasAtLeastAnswered, IsFirstPart, sent_until}

-- ---- what a link allows

allowed_too : (first second : List ℕ → List ℕ → List ℕ → Type 0) → AllowsOnly first second → (sent was_read : List ℕ) (cs : List AnsweredCheck) → AreAllowed first sent was_read cs → AreAllowed second sent was_read cs
allowed_too first second only sent was_read [] h = tt
allowed_too first second only sent was_read (c ∷ cs) h = (only _ _ _ h.0, allowed_too first second only _ _ cs h.1)

pub gave_too : (first second : List ℕ → List ℕ → List ℕ → Type 0) → AllowsOnly first second → (s : LinkState) (cs : List AnsweredCheck) → GaveAllowed first s cs → GaveAllowed second s cs
gave_too first second only s cs h k m = allowed_too first second only logic_text [] cs (h k m)

pub at_least_too : (first second : List ℕ → List ℕ → List ℕ → Type 0) → AllowsOnly first second → (s : LinkState) (cs : List AnsweredCheck) → HasAtLeastAnswered first s cs → HasAtLeastAnswered second s cs
at_least_too first second only s cs h = record { sent = h.sent; was_read = h.was_read; says = h.says; gave = gave_too first second only s cs h.gave }

-- ---- first parts of what is told

-- what is told after bytes was told before them
told_before : (old new : Option (List ℕ)) (bytes : List ℕ) → new ≡ append_known old bytes → IsTrue (is_some new) → IsTrue (is_some old)
told_before None new bytes e k = subst (λ (o : Option (List ℕ)). IsTrue (is_some o)) e k
told_before (Some x) new bytes e k = refl

part_of_longer : (old new : Option (List ℕ)) (part bytes : List ℕ) → new ≡ append_known old bytes → IfSome old (IsFirstPart part) → IfSome new (IsFirstPart part)
part_of_longer None new part bytes e h = subst (λ (o : Option (List ℕ)). IfSome o (IsFirstPart part)) (sym e) tt
part_of_longer (Some t) new part bytes e h =
    subst (λ (o : Option (List ℕ)). IfSome o (IsFirstPart part)) (sym e) (h.0 ++ bytes, ap (λ (x : List ℕ). x ++ bytes) h.1 ∙ append_assoc part h.0 bytes)

nothing_first : (told : Option (List ℕ)) → IfSome told (IsFirstPart [])
nothing_first None = tt
nothing_first (Some t) = (t, refl)

sent_first : (told : Option (List ℕ)) (checks : List AnsweredCheck) (rest : List ℕ) → IfSome told (λ text. text ≡ logic_text ++ (sent_for checks ++ rest)) → IfSome told (IsFirstPart (sent_until checks))
sent_first None checks rest h = tt
sent_first (Some t) [] rest h = (t, refl)
sent_first (Some t) (c ∷ cs) rest h = (rest, h ∙ sym (append_assoc logic_text (sent_for (c ∷ cs)) rest))

read_first : (told : Option (List ℕ)) (bytes : List ℕ) → IfSome told (λ x. x ≡ bytes) → IfSome told (IsFirstPart bytes)
read_first None bytes h = tt
read_first (Some t) bytes h = ([], h ∙ sym (append-nil bytes))

-- ---- what a link has at least answered

pub at_least_nothing : (allows : List ℕ → List ℕ → List ℕ → Type 0) (s : LinkState) → HasAtLeastAnswered allows s []
at_least_nothing allows s = record { sent = nothing_first s.sent; was_read = nothing_first s.was_read; says = tt; gave = λ k m. tt }

pub at_least_now : (allows : List ℕ → List ℕ → List ℕ → Type 0) (s : LinkState) (checks : List AnsweredCheck) (rest : List ℕ) → HasAnswered s checks rest → GaveAllowed allows s checks → HasAtLeastAnswered allows s checks
at_least_now allows s checks rest a gave = record { sent = sent_first s.sent checks rest a.sent; was_read = read_first s.was_read (read_for checks) a.was_read; says = a.says; gave = gave }

-- what was answered before more was begun
pub at_least_behind : (allows : List ℕ → List ℕ → List ℕ → Type 0) (old new : LinkState) (text : List ℕ) (checks : List AnsweredCheck) (rest : List ℕ) → BeginsExchange old new text → HasAnswered old checks rest → GaveAllowed allows old checks → HasAtLeastAnswered allows new checks
at_least_behind allows old new text checks rest b a gave =
    let h = at_least_now allows old checks rest a gave in
    record {
      sent = part_of_longer old.sent new.sent (sent_until checks) b.sent.part b.sent.appended h.sent;
      was_read = part_of_longer old.was_read new.was_read (read_for checks) b.bytes b.was_read h.was_read;
      says = a.says;
      gave = λ k m. gave (told_before old.sent new.sent b.sent.part b.sent.appended k) (told_before old.was_read new.was_read b.bytes b.was_read m);
    }
