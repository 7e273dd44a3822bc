-- One step of a comparison, and what is left of it.
use Rattle.std.proofs.Common.{◌≡◌, ℕ, List, [], ◌∷◌, refl, sym, ap, ◌∙◌, subst}
use Rattle.std.specs.Prelude.{IfOk, Result, Ok, Err}
use Rattle.law_terms.specs.Plain.{PlainTerm}
use Rattle.law_blasting.specs.Circuits.{borrow_out, equal, with_top}
use Rattle.law_blasting.specs.OperatorCircuits.{term_gates}
use Rattle.law_blasting.specs.Passing.{none, one}
use Rattle.smt_nodes.specs.declared.id.NodeId.{NodeId}
use Rattle.smt_nodes.specs.declared.interner.Interner.{Interner}
use Rattle.smt_blast.specs.Standing.{AreBits, Grows, Stands}
use Rattle.smt_blast.proofs.Standing.{bit_stays, bits_stay, nothing}
use Rattle.smt_blast.proofs.Adding.{begins, Gate2}

-- ---- equality

-- what a call that compares answers
abbrev pub Equals : Interner → List NodeId → List NodeId → Interner → NodeId → Type 0
Equals g xs ys h id = (us vs : List PlainTerm) → AreBits g xs us → AreBits g ys vs → Stands h id (equal term_gates us vs)

equal_short : (us : List PlainTerm) → equal term_gates us [] ≡ term_gates.yes
equal_short [] = refl
equal_short (u ∷ us) = refl

pub equals_empty : {g : Interner} {xs ys : List NodeId} {id : NodeId} → xs ≡ [] → Stands g id term_gates.yes → Equals g xs ys g id
equals_empty {g} {id = id} e s us vs p q = subst (λ (ws : List PlainTerm). Stands g id (equal term_gates ws vs)) (sym (nothing (subst (λ (l : List NodeId). AreBits g l us) e p))) s

pub equals_unpaired : {g : Interner} {xs ys : List NodeId} {id : NodeId} → ys ≡ [] → Stands g id term_gates.yes → Equals g xs ys g id
equals_unpaired {g} {id = id} e s us vs p q =
    subst (λ (ws : List PlainTerm). Stands g id (equal term_gates us ws)) (sym (nothing (subst (λ (l : List NodeId). AreBits g l vs) e q))) (subst (λ u. Stands g id u) (sym (equal_short us)) s)

last_here : {f g : Interner} {x y id : NodeId} {ys : List NodeId} → Gate2 term_gates.eq f x y g id → {us vs : List PlainTerm} → AreBits f (x ∷ []) us → AreBits f (y ∷ ys) vs → Stands g id (equal term_gates us vs)
last_here a (one {y = u} p none) (one {y = v} s k) = a u v p s

pub equals_at_last : {f g : Interner} {x y id : NodeId} {xs ys xss yss : List NodeId} → xss ≡ x ∷ xs → yss ≡ y ∷ ys → xs ≡ [] → Gate2 term_gates.eq f x y g id → Equals f xss yss g id
equals_at_last {f} {x = x} m n z a us vs p q = last_here a (subst (λ (l : List NodeId). AreBits f l us) (m ∙ ap (λ l. x ∷ l) z) p) (subst (λ (l : List NodeId). AreBits f l vs) n q)

more_here : {f g h i : Interner} {x y first others id w : NodeId} {xs ys : List NodeId}
    → Grows f g 1 → Gate2 term_gates.eq f x y g first → {k : ℕ} → Grows g h k → Equals g (w ∷ xs) ys h others → Gate2 term_gates.and h first others i id
    → {us vs : List PlainTerm} → AreBits f (x ∷ (w ∷ xs)) us → AreBits f (y ∷ ys) vs → Stands i id (equal term_gates us vs)
more_here a ea b rest d (one {y = u} p (one {y = z} {ys = us} o q)) (one {y = v} {ys = vs} s k) =
    d (term_gates.eq u v) (equal term_gates (z ∷ us) vs) (bit_stays b (ea u v p s)) (rest (z ∷ us) vs (bits_stay a (one o q)) (bits_stay a k))

pub equals_further : {f g h i : Interner} {k : ℕ} {x y first others id : NodeId} {xs ys xss yss : List NodeId}
    → xss ≡ x ∷ xs → yss ≡ y ∷ ys → ¬ (xs ≡ []) → Grows f g 1 → Gate2 term_gates.eq f x y g first → Grows g h k → Equals g xs ys h others → Gate2 term_gates.and h first others i id → Equals f xss yss i id
equals_further {f} {g} {h} {x = x} {others = others} {xs = xs} {ys = ys} m n z a ea b rest d us vs p q =
    let (w, ws, e) = begins xs z in
    more_here a ea b (subst (λ (l : List NodeId). Equals g l ys h others) e rest) d (subst (λ (l : List NodeId). AreBits f l us) (m ∙ ap (λ l. x ∷ l) e) p) (subst (λ (l : List NodeId). AreBits f l vs) n q)

-- ---- what is borrowed

-- what a call that borrows answers
abbrev pub Borrows : Interner → List NodeId → List NodeId → NodeId → Interner → NodeId → Type 0
Borrows g xs ys borrow h id = (us vs : List PlainTerm) (c : PlainTerm) → AreBits g xs us → AreBits g ys vs → Stands g borrow c → Stands h id (borrow_out term_gates us vs c)

borrow_short : (us : List PlainTerm) (c : PlainTerm) → borrow_out term_gates us [] c ≡ c
borrow_short [] c = refl
borrow_short (u ∷ us) c = refl

pub borrows_empty : {g : Interner} {xs ys : List NodeId} {borrow : NodeId} → xs ≡ [] → Borrows g xs ys borrow g borrow
borrows_empty {g} {borrow = borrow} e us vs c p q t = subst (λ (ws : List PlainTerm). Stands g borrow (borrow_out term_gates ws vs c)) (sym (nothing (subst (λ (l : List NodeId). AreBits g l us) e p))) t

pub borrows_unpaired : {g : Interner} {xs ys : List NodeId} {borrow : NodeId} → ys ≡ [] → Borrows g xs ys borrow g borrow
borrows_unpaired {g} {borrow = borrow} e us vs c p q t =
    subst (λ (ws : List PlainTerm). Stands g borrow (borrow_out term_gates us ws c)) (sym (nothing (subst (λ (l : List NodeId). AreBits g l vs) e q))) (subst (λ u. Stands g borrow u) (sym (borrow_short us c)) t)

borrowed_here : {f g h j : Interner} {x y both next borrow id : NodeId} {xs ys : List NodeId}
    → Grows f g 1 → Gate2 term_gates.eq f x y g both → Grows g h 1 → ((u v w : PlainTerm) → Stands g both u → Stands g borrow v → Stands g y w → Stands h next (term_gates.ite u v w)) → Borrows h xs ys next j id
    → {us vs : List PlainTerm} (c : PlainTerm) → AreBits f (x ∷ xs) us → AreBits f (y ∷ ys) vs → Stands f borrow c → Stands j id (borrow_out term_gates us vs c)
borrowed_here a ea b eb rest c (one {y = u} {ys = us} p q) (one {y = v} {ys = vs} s k) t =
    rest us vs (term_gates.ite (term_gates.eq u v) c v) (bits_stay b (bits_stay a q)) (bits_stay b (bits_stay a k)) (eb (term_gates.eq u v) c v (ea u v p s) (bit_stays a t) (bit_stays a s))

pub borrows_further : {f g h j : Interner} {x y both next borrow id : NodeId} {xs ys xss yss : List NodeId}
    → xss ≡ x ∷ xs → yss ≡ y ∷ ys → Grows f g 1 → Gate2 term_gates.eq f x y g both → Grows g h 1 → ((u v w : PlainTerm) → Stands g both u → Stands g borrow v → Stands g y w → Stands h next (term_gates.ite u v w)) → Borrows h xs ys next j id → Borrows f xss yss borrow j id
borrows_further {f} m n a ea b eb rest us vs c p q t = borrowed_here a ea b eb rest c (subst (λ (l : List NodeId). AreBits f l us) m p) (subst (λ (l : List NodeId). AreBits f l vs) n q) t

-- ---- the highest bits exchanged

pub topped : {g : Interner} {xs ys : List NodeId} {us vs : List PlainTerm} → AreBits g xs us → AreBits g ys vs → AreBits g (with_top xs ys) (with_top us vs)
topped none k = none
topped (one r h) none = none
topped (one r none) (one q k) = one q none
topped (one r (one p h)) (one q k) = one r (topped (one p h) k)

with_top_empty : {X : Type 0} (xs : List X) → with_top xs [] ≡ []
with_top_empty [] = refl
with_top_empty (x ∷ xs) = refl

-- ---- calls that may fail

pub equals_rest : {E : Type 0} {f g h : Interner} (i : Interner) {k : ℕ} {x y first others : NodeId} {xs ys xss yss : List NodeId} (r : Result NodeId E)
    → xss ≡ x ∷ xs → yss ≡ y ∷ ys → ¬ (xs ≡ []) → Grows f g 1 → Gate2 term_gates.eq f x y g first → Grows g h k → Equals g xs ys h others → ((u v : PlainTerm) → Stands h first u → Stands h others v → IfOk r (λ id. Stands i id (term_gates.and u v)))
    → (us vs : List PlainTerm) → AreBits f xss us → AreBits f yss vs → IfOk r (λ id. Stands i id (equal term_gates us vs))
equals_rest i (Ok id) m n z a ea b rest d us vs p q = equals_further m n z a ea b rest d us vs p q
equals_rest i (Err e) m n z a ea b rest d us vs p q = tt

pub borrows_rest : {E : Type 0} {f g h : Interner} (j : Interner) {x y both next borrow : NodeId} {xs ys xss yss : List NodeId} (r : Result NodeId E)
    → xss ≡ x ∷ xs → yss ≡ y ∷ ys → Grows f g 1 → Gate2 term_gates.eq f x y g both → Grows g h 1 → ((u v w : PlainTerm) → Stands g both u → Stands g borrow v → Stands g y w → Stands h next (term_gates.ite u v w))
    → ((us vs : List PlainTerm) (c : PlainTerm) → AreBits h xs us → AreBits h ys vs → Stands h next c → IfOk r (λ id. Stands j id (borrow_out term_gates us vs c)))
    → (us vs : List PlainTerm) (c : PlainTerm) → AreBits f xss us → AreBits f yss vs → Stands f borrow c → IfOk r (λ id. Stands j id (borrow_out term_gates us vs c))
borrows_rest j (Ok id) m n a ea b eb rest us vs c p q t = borrows_further m n a ea b eb rest us vs c p q t
borrows_rest j (Err e) m n a ea b eb rest us vs c p q t = tt
