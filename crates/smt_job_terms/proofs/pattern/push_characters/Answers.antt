use Rattle.std.proofs.Common.{◌≡◌, ℕ, List, [], ◌∷◌, ◌++◌, map, refl, ap, ◌∙◌}
use Rattle.std.proofs.lemmas.Iterator.{YieldsList-from_chars}
use Rattle.std.proofs.lemmas.Iterator.Consumers.{YieldsList-end}
use Rattle.smt_term.specs.PatternView.{plain_part}
use Rattle.law_terms.specs.Plain.{Character}
use Rattle.smt_job_terms.proofs.pattern.push_characters.Goals as goal

itself : (xs : List ℕ) → xs ≡ map (λ x. x) xs
itself [] = refl
itself (x ∷ xs) = ap (λ ys. x ∷ ys) (itself xs)

pub returns-clause-pushed : goal.returns-clause-pushed
returns-clause-pushed c =
    let t = YieldsList-end (YieldsList-from_chars c.args.text.now c.utf8.text cc) c.loop-character.yielded _ c.loop-character.yielded_by _ _ c.in-None.is c.next.ensures.steps in
    c.loop-character.invariant ∙ ap (λ xs. map plain_part c.args.elems.now.items ++ map Character xs) (itself c.loop-character.yielded ∙ t.0)
