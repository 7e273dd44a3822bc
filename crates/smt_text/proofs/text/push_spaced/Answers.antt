use Rattle.std.proofs.Common.{ℕ, ◌≡◌, ◌++◌, ◌∙◌, List, ap, sym, append_assoc, rules}
use Rattle.std.specs.Prelude.{codes}
use Rattle.law_texts.proofs.Joined.{texts-drop}
use Rattle.smt_text.proofs.text.push_spaced.Goals as goal

-- one operand more is written
one_more : (old mid new gap operand left left' whole : List ℕ) → mid ≡ old ++ gap → new ≡ mid ++ operand → left ≡ (gap ++ operand) ++ left' → old ++ left ≡ whole → new ++ left' ≡ whole
one_more old mid new gap operand left left' whole p q e h =
    let f : old ++ ((gap ++ operand) ++ left') ≡ whole = ap (λ l. old ++ l) (sym e) ∙ h in
    rw (q, p) (simp append_assoc (simp append_assoc at f))

pub loop-piece-preserved : goal.loop-piece-preserved
loop-piece-preserved c =
    let step = texts-drop c.loop-piece.gap.now (codes " ") _ _ _ _ c.loop-piece-test.true c.as_str.ensures.value c.piece-item.is in
    record {
      is_text = search rules;
      going = one_more _ _ _ _ _ _ _ _ c.in_ok-push_str.ensures.bytes c.in_ok-push_str-2.ensures.bytes step c.loop-piece.invariant.going;
    }
