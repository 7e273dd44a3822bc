-- What stays when nodes are entered.
use Rattle.std.proofs.Common.{◌≡◌, ℕ, ◌+◌, ◌≤◌, List, [], ◌∷◌, ◌++◌, refl, sym, subst, arith}
use Rattle.std.specs.Prelude.{OnOk, Result, Ok, Err}
use Rattle.law_terms.specs.Nodes.{TermMeaning}
use Rattle.law_terms.specs.Plain.{PlainTerm}
use Rattle.law_blasting.specs.Passing.{Related, none, one}
use Rattle.smt_nodes.specs.declared.id.NodeId.{NodeId}
use Rattle.smt_nodes.specs.declared.interner.Interner.{Interner}
use Rattle.smt_blast.specs.Standing.{Grows, Stands}

-- ---- what stood for a term still does

pub bit_stays : {g h : Interner} {k : ℕ} {id : NodeId} {u : PlainTerm} → Grows g h k → Stands g id u → Stands h id u
bit_stays {id = id} {u = u} w s = record { means = w.kept id (TermMeaning u) s.means }

pub bits_stay : {g h : Interner} {k : ℕ} {ids : List NodeId} {us : List PlainTerm} → Grows g h k → Related (Stands g) ids us → Related (Stands h) ids us
bits_stay w none = none
bits_stay w (one s r) = one (bit_stays w s) (bits_stay w r)

pub not_grown : (g : Interner) (k : ℕ) → Grows g g k
not_grown g k = record { kept = λ id m e. e; few = omega arith }

pub grown_twice : {f g h : Interner} {k l : ℕ} → Grows f g k → Grows g h l → Grows f h (k + l)
grown_twice v w = record { kept = λ id m e. w.kept id m (v.kept id m e); few = (let a = v.few in let b = w.few in omega arith) }

pub grown_by : {g h : Interner} {k l : ℕ} → k ≤ l → Grows g h k → Grows g h l
grown_by p w = record { kept = w.kept; few = (let a = w.few in omega arith) }

-- after a call that grows by so many nodes, one that grows by the others
pub then_grown : {T E : Type 0} {f g : Interner} (h : Interner) {k : ℕ} (l m : ℕ) (r : Result T E) → k + l ≤ m → Grows f g k → OnOk r (Grows g h l) → OnOk r (Grows f h m)
then_grown h l m (Ok x) p v w = grown_by p (grown_twice v w)
then_grown h l m (Err e) p v w = tt

-- ---- lists of bits

pub nothing : {g : Interner} {us : List PlainTerm} → Related (Stands g) [] us → us ≡ []
nothing none = refl

pub joined : {g : Interner} {ids js : List NodeId} {us vs : List PlainTerm} → Related (Stands g) ids us → Related (Stands g) js vs → Related (Stands g) (ids ++ js) (us ++ vs)
joined none k = k
joined (one s r) k = one s (joined r k)

pub pushed : {g : Interner} {ids more : List NodeId} {us : List PlainTerm} {id : NodeId} {u : PlainTerm} → more ≡ ids ++ id ∷ [] → Related (Stands g) ids us → Stands g id u → Related (Stands g) more (us ++ u ∷ [])
pushed {g} {us = us} {u = u} e r s = subst (λ l. Related (Stands g) l (us ++ u ∷ [])) (sym e) (joined r (one s none))
