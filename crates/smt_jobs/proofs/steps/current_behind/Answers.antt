use Rattle.std.proofs.Common.{ℕ, ◌+◌, List, ◌∷◌, ◌++◌, Bor, drop, map, ap, sym, ◌∙◌}
use Rattle.std.proofs.lemmas.List.{at_drop_more, length-map, take-map}
use Rattle.std.specs.declared.alloc.Global.{Global}
use Rattle.std.specs.declared.vec.Vec.{Vec}
use Rattle.law_terms.specs.Plain.{PlainTerm}
use Rattle.smt_term.specs.View.{plain_term}
use Rattle.smt_term.specs.declared.term.Term.{Term}
use Rattle.smt_jobs.specs.StepView.{plain_step}
use Rattle.smt_jobs.specs.declared.steps.Step.{Step}
use Rattle.smt_jobs.proofs.Levels.{behind_assert, behind_check, behind_idle_pop, behind_pop, behind_push, none_long, same_state}
use Rattle.smt_jobs.proofs.steps.current_behind.Goals.{in-Assert+in_ok-append-in-Assert, in-Push+in_ok-push-in-Push, in-Pop+in-Some, in-Pop+in_default, in-Check}
use Rattle.smt_jobs.proofs.steps.current_behind.Goals as goal

terms_in : Vec (Bor Term) Global → List PlainTerm
terms_in v = map (λ (term : Bor Term). plain_term term.now) v.items

pub loop-step-preserved : goal.loop-step-preserved
unfolding terms_in
loop-step-preserved c =
    let steps = map plain_step c.args.steps.now in
    let rest = map plain_step (drop (c.loop-step.step-index + 1) c.args.steps.now) in
    let before = map plain_step (drop c.loop-step.step-index c.args.steps.now) in
    let left = at_drop_more (map plain_step) c.args.steps.now c.loop-step.step-index c.step-item.result c.loop-step-test.true ∙ ap (λ (x : Step). plain_step x ∷ rest) (sym c.step-item.is) in
    let now = terms_in c.loop-step.current in
    let counts : List ℕ = c.loop-step.opened.items in
    let current = c.loop-step.invariant in
    elim c.match-step.branch [
      | in-Assert+in_ok-append-in-Assert w ↦ same_state steps rest _ _ _ _ (behind_assert steps before rest now counts current _ (terms_in w.append.new.current) (left ∙ ap (λ (x : Step). plain_step x ∷ rest) w.in-Assert.is) (w.in_ok-append-in-Assert.ensures ∙ ap (λ l. now ++ l) w.items.ensures.plain)) (ap terms_in w.current-is) (ap (λ (v : Vec ℕ Global). v.items) w.opened-is)
      | in-Push+in_ok-push-in-Push w ↦ same_state steps rest _ _ _ _ (behind_push steps before rest now counts current w.len.result w.push.new.self.items (left ∙ ap (λ (x : Step). plain_step x ∷ rest) w.in-Push.is) (w.len.ensures ∙ c.loop-step.current.ok.0 ∙ sym (length-map c.loop-step.current.items (λ (term : Bor Term). plain_term term.now))) w.in_ok-push-in-Push.ensures.items) (ap terms_in w.current-is) (ap (λ (v : Vec ℕ Global). v.items) w.opened-is)
      | in-Pop+in-Some w ↦ same_state steps rest _ _ _ _ (behind_pop steps before rest now counts current w.in-Some.count w.pop.new.self.items (terms_in w.truncate.new.self) (left ∙ ap (λ (x : Step). plain_step x ∷ rest) w.in-Pop.is) w.in-Some.ensures.items (ap (map (λ (term : Bor Term). plain_term term.now)) w.truncate.ensures.items ∙ sym (take-map (λ (term : Bor Term). plain_term term.now) w.in-Some.count c.loop-step.current.items))) (ap terms_in w.current-is) (ap (λ (v : Vec ℕ Global). v.items) w.opened-is)
      | in-Pop+in_default w ↦ same_state steps rest _ _ _ _ (behind_idle_pop steps before rest now counts current (left ∙ ap (λ (x : Step). plain_step x ∷ rest) w.in-Pop.is) (none_long counts (sym c.loop-step.opened.ok.0 ∙ w.in_default.ensures.cases.0))) (ap terms_in w.current-is) (ap (λ (v : Vec ℕ Global). v.items) w.opened-is ∙ none_long w.pop.new.self.items (sym w.pop.new.self.ok.0 ∙ w.in_default.ensures.cases.1))
      | in-Check w ↦ same_state steps rest _ _ _ _ (behind_check steps before rest now counts current (left ∙ ap (λ (x : Step). plain_step x ∷ rest) w.in-Check.is)) (ap terms_in w.current-is) (ap (λ (v : Vec ℕ Global). v.items) w.opened-is)
    ]
