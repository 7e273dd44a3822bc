use Rattle.std.proofs.Common.{◌≡◌, ◌∙◌, refl, [], List, None, Option, Some, ap, arith, length, replicate, subst, sym, zero, suc, ℕ}
use Rattle.std.proofs.lemmas.List.{length-replicate}
use Rattle.law_blasting.specs.Passing.{Related, none}
use Rattle.smt_nodes.specs.declared.id.NodeId.{NodeId}
use Rattle.smt_nodes.specs.Interned.{nodes_of}
use Rattle.smt_blast.specs.Marks.{mark_in, IsMarked, IsVariable}
use Rattle.smt_blast.specs.declared.marks.Seen.{Seen}
use Rattle.std.specs.List.{AllByRecursion}
use Rattle.smt_nodes.specs.View.{place_of}
use Rattle.smt_blast.proofs.visit.Walk.new.Goals as goal

unmarked : (n i : ℕ) → mark_in (replicate n None) i ≡ None
unmarked zero i = refl
unmarked (suc n) zero = refl
unmarked (suc n) (suc i) = unmarked n i

pub returns : goal.returns
returns c =
    let old = c.args.old.now in
    let n = c.loop-place.place in
    let marks : c.loop-place.marks.items ≡ replicate n None = c.loop-place.invariant in
    let count : n ≡ length (nodes_of old) = omega (arith, c.loop-place-test.false, c.loop-place.auto.place-end, c.len-place-end.ensures) in
    record {
      places = ap length marks ∙ (length-replicate n None ∙ count);
      variables = subst (λ (l : List NodeId). Related (IsVariable old) l []) (sym c.new.ensures.items) none;
      met = subst (λ (l : List NodeId). AllByRecursion (IsMarked c.loop-place.marks.items) l) (sym c.new.ensures.items) tt;
      sound = λ id s e. let clash : None ≡ Some s = sym (ap (λ (l : List (Option Seen)). mark_in l (place_of id)) marks ∙ unmarked n (place_of id)) ∙ e in absurd (cc);
    }
