-- What numbers say of the terms that are current behind steps.
use Rattle.std.specs.Prelude.{◌≡◌, ◌≤◌, ℕ, ⊤, List, [], ◌∷◌, length, reverse, take}
use Rattle.law_jobs.specs.Steps.{PlainStep, current_behind}
use Rattle.law_terms.specs.Plain.{PlainTerm}
use Rattle.smt_nodes.specs.Interned.{StandFor}
use Rattle.smt_nodes.specs.declared.id.NodeId.{NodeId}
use Rattle.smt_nodes.specs.declared.interner.Interner.{Interner}
use Rattle.smt_blast.specs.declared.current.Current.{Current}

-- The first so many of these numbers, by each of the counts, stand for the terms of each level below, the last first.
abbrev pub AreBelow : Interner → List NodeId → (counts : List ℕ) → (below : List (List PlainTerm)) → Type 0
AreBelow nodes ids [] [] = ⊤
AreBelow nodes ids (k ∷ ks) (ts ∷ below) = (k ≤ length ids) × StandFor nodes (take k ids) ts × AreBelow nodes (take k ids) ks below
AreBelow nodes ids ks below = ⊥

-- These terms are current where more steps follow what is current here, by its numbers.
pub record LeadsTo (nodes : Interner) (c : Current) (steps : List PlainStep) (ts : List PlainTerm) : Type 0 where
  pub now : List PlainTerm
  pub below : List (List PlainTerm)
  pub stand : StandFor nodes c.ids.items now
  pub levels : AreBelow nodes c.ids.items (reverse c.counts.items) below
  pub leads : current_behind now below steps ≡ ts
