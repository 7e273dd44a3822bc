-- One step of a circuit, and what is left of it.
use Rattle.std.proofs.Common.{◌≡◌, List, [], ◌∷◌, ◌++◌, refl, sym, ap, ◌∙◌, subst, append_assoc}
use Rattle.std.specs.Prelude.{OnOk, IfOk, Result, Ok, Err}
use Rattle.law_terms.specs.Plain.{PlainTerm}
use Rattle.law_blasting.specs.Circuits.{equal}
use Rattle.law_blasting.specs.OperatorCircuits.{term_gates}
use Rattle.law_blasting.specs.Passing.{none, one}
use Rattle.smt_nodes.specs.declared.id.NodeId.{NodeId}
use Rattle.smt_nodes.specs.declared.interner.Interner.{Interner}
use Rattle.smt_blast.specs.Chains.{added, leaves_range, passed_on}
use Rattle.smt_blast.specs.Standing.{AreBits, Grows, Stands}
use Rattle.smt_blast.specs.declared.circuit.Chain.{Chain}
use Rattle.smt_blast.specs.declared.circuit.Chain.TheVariants.{Carry, Borrow}
use Rattle.std.proofs.lemmas.List.{append-nil}
use Rattle.smt_blast.proofs.Standing.{bit_stays, bits_stay, nothing, pushed}

-- a gate of two bits
abbrev pub Gate2 : (PlainTerm → PlainTerm → PlainTerm) → Interner → NodeId → NodeId → Interner → NodeId → Type 0
Gate2 f g a b h id = (u v : PlainTerm) → Stands g a u → Stands g b v → Stands h id (f u v)

-- ---- sums and differences

added_first : (chain : Chain) (us vs : List PlainTerm) (u v c : PlainTerm) → term_gates.eq (term_gates.eq u v) c ∷ added term_gates chain us vs (passed_on term_gates chain u v c) ≡ added term_gates chain (u ∷ us) (v ∷ vs) c
added_first Carry us vs u v c = refl
added_first Borrow us vs u v c = refl

added_none : (chain : Chain) (vs : List PlainTerm) (c : PlainTerm) → added term_gates chain [] vs c ≡ []
added_none Carry vs c = refl
added_none Borrow vs c = refl

added_short : (chain : Chain) (us : List PlainTerm) (c : PlainTerm) → added term_gates chain us [] c ≡ []
added_short Carry [] c = refl
added_short Carry (u ∷ us) c = refl
added_short Borrow [] c = refl
added_short Borrow (u ∷ us) c = refl

pub no_more_added : {g : Interner} (chain : Chain) {xs ys sum : List NodeId} {carry : NodeId} → xs ≡ [] → (us vs ts : List PlainTerm) (c : PlainTerm) → AreBits g xs us → AreBits g ys vs → Stands g carry c → AreBits g sum ts → AreBits g sum (ts ++ added term_gates chain us vs c)
no_more_added {g} chain {sum = sum} e us vs ts c p q s r =
    subst (λ (ws : List PlainTerm). AreBits g sum (ts ++ added term_gates chain ws vs c)) (sym (nothing (subst (λ (l : List NodeId). AreBits g l us) e p)))
    (subst (λ ws. AreBits g sum ws) (sym (ap (λ l. ts ++ l) (added_none chain vs c) ∙ append-nil ts)) r)

pub no_second_added : {g : Interner} (chain : Chain) {xs ys sum : List NodeId} {carry : NodeId} → ys ≡ [] → (us vs ts : List PlainTerm) (c : PlainTerm) → AreBits g xs us → AreBits g ys vs → Stands g carry c → AreBits g sum ts → AreBits g sum (ts ++ added term_gates chain us vs c)
no_second_added {g} chain {sum = sum} e us vs ts c p q s r =
    subst (λ (ws : List PlainTerm). AreBits g sum (ts ++ added term_gates chain us ws c)) (sym (nothing (subst (λ (l : List NodeId). AreBits g l vs) e q)))
    (subst (λ ws. AreBits g sum ws) (sym (ap (λ l. ts ++ l) (added_short chain us c) ∙ append-nil ts)) r)

-- what a call that adds appends
abbrev pub Adds : {T E : Type 0} → Chain → Interner → List NodeId → List NodeId → NodeId → List NodeId → Interner → List NodeId → Result T E → Type 0
Adds chain g xs ys carry sum h more r = (us vs ts : List PlainTerm) (c : PlainTerm) → AreBits g xs us → AreBits g ys vs → Stands g carry c → AreBits g sum ts → OnOk r (AreBits h more (ts ++ added term_gates chain us vs c))

-- what the next place gets
abbrev pub PassesOn : Chain → Interner → NodeId → NodeId → NodeId → NodeId → Interner → NodeId → Type 0
PassesOn chain g equal x y carry h next = (u v c : PlainTerm) → Stands g equal (term_gates.eq u v) → Stands g x u → Stands g y v → Stands g carry c → Stands h next (passed_on term_gates chain u v c)

added_here : {T E : Type 0} (chain : Chain) {f g h i : Interner} (j : Interner) {x y both bit next carry : NodeId} {xs ys sum more : List NodeId} (all : List NodeId) (r : Result T E)
    → Grows f g 1 → Gate2 term_gates.eq f x y g both → Grows g h 1 → Gate2 term_gates.eq g both carry h bit → more ≡ sum ++ bit ∷ [] → Grows h i 1 → PassesOn chain h both x y carry i next
    → Adds chain i xs ys next more j all r → {us vs : List PlainTerm} (ts : List PlainTerm) (c : PlainTerm) → AreBits f (x ∷ xs) us → AreBits f (y ∷ ys) vs → Stands f carry c → AreBits f sum ts → OnOk r (AreBits j all (ts ++ added term_gates chain us vs c))
added_here chain j all r a ea b eb e d ed rest ts c (one {y = u} {ys = us} p q) (one {y = v} {ys = vs} s k) t w =
    let both_is = ea u v p s in
    let bit_is = eb (term_gates.eq u v) c both_is (bit_stays a t) in
    let next_is = ed u v c (bit_stays b both_is) (bit_stays b (bit_stays a p)) (bit_stays b (bit_stays a s)) (bit_stays b (bit_stays a t)) in
    let before = pushed e (bits_stay b (bits_stay a w)) bit_is in
    let whole = rest us vs (ts ++ term_gates.eq (term_gates.eq u v) c ∷ []) (passed_on term_gates chain u v c) (bits_stay d (bits_stay b (bits_stay a q))) (bits_stay d (bits_stay b (bits_stay a k))) next_is (bits_stay d before) in
    subst (λ (l : List PlainTerm). OnOk r (AreBits j all l)) (append_assoc ts (term_gates.eq (term_gates.eq u v) c ∷ []) (added term_gates chain us vs (passed_on term_gates chain u v c)) ∙ ap (λ l. ts ++ l) (added_first chain us vs u v c)) whole

pub added_step : {T E : Type 0} (chain : Chain) {f g h i : Interner} (j : Interner) {x y both bit next carry : NodeId} {xs ys xss yss sum more : List NodeId} (all : List NodeId) (r : Result T E)
    → xss ≡ x ∷ xs → yss ≡ y ∷ ys → Grows f g 1 → Gate2 term_gates.eq f x y g both → Grows g h 1 → Gate2 term_gates.eq g both carry h bit → more ≡ sum ++ bit ∷ [] → Grows h i 1 → PassesOn chain h both x y carry i next
    → Adds chain i xs ys next more j all r → Adds chain f xss yss carry sum j all r
added_step chain {f = f} j all r m n a ea b eb e d ed rest us vs ts c p q t w =
    added_here chain j all r a ea b eb e d ed rest ts c (subst (λ (l : List NodeId). AreBits f l us) m p) (subst (λ (l : List NodeId). AreBits f l vs) n q) t w

-- ---- overflows

leaves_none : (chain : Chain) (vs : List PlainTerm) (c : PlainTerm) → leaves_range term_gates chain [] vs c ≡ term_gates.no
leaves_none Carry vs c = refl
leaves_none Borrow vs c = refl

leaves_short : (chain : Chain) (us : List PlainTerm) (c : PlainTerm) → leaves_range term_gates chain us [] c ≡ term_gates.no
leaves_short Carry [] c = refl
leaves_short Carry (u ∷ us) c = refl
leaves_short Borrow [] c = refl
leaves_short Borrow (u ∷ us) c = refl

leaves_last : (chain : Chain) (vs : List PlainTerm) (u v c : PlainTerm) → leaves_range term_gates chain (u ∷ []) (v ∷ vs) c ≡ term_gates.not (term_gates.eq c (passed_on term_gates chain u v c))
leaves_last Carry vs u v c = refl
leaves_last Borrow vs u v c = refl

leaves_more : (chain : Chain) (us vs : List PlainTerm) (w u v c : PlainTerm) → leaves_range term_gates chain (u ∷ (w ∷ us)) (v ∷ vs) c ≡ leaves_range term_gates chain (w ∷ us) vs (passed_on term_gates chain u v c)
leaves_more Carry us vs w u v c = refl
leaves_more Borrow us vs w u v c = refl

-- what a call that tests for an overflow answers
abbrev pub Leaves : Chain → Interner → List NodeId → List NodeId → NodeId → Interner → NodeId → Type 0
Leaves chain g xs ys carry h id = (us vs : List PlainTerm) (c : PlainTerm) → AreBits g xs us → AreBits g ys vs → Stands g carry c → Stands h id (leaves_range term_gates chain us vs c)

pub leaves_empty : {g : Interner} (chain : Chain) {xs ys : List NodeId} {carry id : NodeId} → xs ≡ [] → Stands g id term_gates.no → Leaves chain g xs ys carry g id
leaves_empty {g} chain {id = id} e s us vs c p q t =
    subst (λ (ws : List PlainTerm). Stands g id (leaves_range term_gates chain ws vs c)) (sym (nothing (subst (λ (l : List NodeId). AreBits g l us) e p)))
    (subst (λ u. Stands g id u) (sym (leaves_none chain vs c)) s)

pub leaves_unpaired : {g : Interner} (chain : Chain) {xs ys : List NodeId} {carry id : NodeId} → ys ≡ [] → Stands g id term_gates.no → Leaves chain g xs ys carry g id
leaves_unpaired {g} chain {id = id} e s us vs c p q t =
    subst (λ (ws : List PlainTerm). Stands g id (leaves_range term_gates chain us ws c)) (sym (nothing (subst (λ (l : List NodeId). AreBits g l vs) e q)))
    (subst (λ u. Stands g id u) (sym (leaves_short chain us c)) s)

last_here : (chain : Chain) {f g h i j : Interner} {x y both next carry same id : NodeId} {ys : List NodeId}
    → Grows f g 1 → Gate2 term_gates.eq f x y g both → Grows g h 1 → PassesOn chain g both x y carry h next → Grows h i 1 → Gate2 term_gates.eq h carry next i same → ((u : PlainTerm) → Stands i same u → Stands j id (term_gates.not u))
    → {us vs : List PlainTerm} (c : PlainTerm) → AreBits f (x ∷ []) us → AreBits f (y ∷ ys) vs → Stands f carry c → Stands j id (leaves_range term_gates chain us vs c)
last_here chain {j = j} {id = id} a ea b eb d ed n c (one {y = u} p none) (one {y = v} {ys = vs} s k) t =
    let next_is = eb u v c (ea u v p s) (bit_stays a p) (bit_stays a s) (bit_stays a t) in
    subst (λ w. Stands j id w) (sym (leaves_last chain vs u v c)) (n (term_gates.eq c (passed_on term_gates chain u v c)) (ed c (passed_on term_gates chain u v c) (bit_stays b (bit_stays a t)) next_is))

pub leaves_at_last : (chain : Chain) {f g h i j : Interner} {x y both next carry same id : NodeId} {xs ys xss yss : List NodeId}
    → xss ≡ x ∷ xs → yss ≡ y ∷ ys → xs ≡ [] → Grows f g 1 → Gate2 term_gates.eq f x y g both → Grows g h 1 → PassesOn chain g both x y carry h next → Grows h i 1 → Gate2 term_gates.eq h carry next i same → ((u : PlainTerm) → Stands i same u → Stands j id (term_gates.not u))
    → Leaves chain f xss yss carry j id
leaves_at_last chain {f = f} {x = x} m n z a ea b eb d ed k us vs c p q t =
    last_here chain a ea b eb d ed k c (subst (λ (l : List NodeId). AreBits f l us) (m ∙ ap (λ l. x ∷ l) z) p) (subst (λ (l : List NodeId). AreBits f l vs) n q) t

more_here : (chain : Chain) {f g h j : Interner} {x y both next carry id w : NodeId} {xs ys : List NodeId}
    → Grows f g 1 → Gate2 term_gates.eq f x y g both → Grows g h 1 → PassesOn chain g both x y carry h next → Leaves chain h (w ∷ xs) ys next j id
    → {us vs : List PlainTerm} (c : PlainTerm) → AreBits f (x ∷ (w ∷ xs)) us → AreBits f (y ∷ ys) vs → Stands f carry c → Stands j id (leaves_range term_gates chain us vs c)
more_here chain {j = j} {id = id} a ea b eb rest c (one {y = u} p (one {y = z} {ys = us} o q)) (one {y = v} {ys = vs} s k) t =
    let next_is = eb u v c (ea u v p s) (bit_stays a p) (bit_stays a s) (bit_stays a t) in
    subst (λ w. Stands j id w) (sym (leaves_more chain us vs z u v c)) (rest (z ∷ us) vs (passed_on term_gates chain u v c) (bits_stay b (bits_stay a (one o q))) (bits_stay b (bits_stay a k)) next_is)

-- a list that is not empty has a first item
pub begins : {X : Type 0} (xs : List X) → ¬ (xs ≡ []) → (x : X) × (ys : List X) × (xs ≡ x ∷ ys)
begins [] h = absurd (h refl)
begins (x ∷ xs) h = (x, xs, refl)

pub leaves_further : (chain : Chain) {f g h j : Interner} {x y both next carry id : NodeId} {xs ys xss yss : List NodeId}
    → xss ≡ x ∷ xs → yss ≡ y ∷ ys → ¬ (xs ≡ []) → Grows f g 1 → Gate2 term_gates.eq f x y g both → Grows g h 1 → PassesOn chain g both x y carry h next → Leaves chain h xs ys next j id → Leaves chain f xss yss carry j id
leaves_further chain {f = f} {h = h} {j = j} {x = x} {next = next} {id = id} {xs = xs} {ys = ys} m n z a ea b eb rest us vs c p q t =
    let (w, ws, e) = begins xs z in
    more_here chain a ea b eb (subst (λ (l : List NodeId). Leaves chain h l ys next j id) e rest) c (subst (λ (l : List NodeId). AreBits f l us) (m ∙ ap (λ l. x ∷ l) e) p) (subst (λ (l : List NodeId). AreBits f l vs) n q) t

-- the same of a call that may fail
pub leaves_rest : (chain : Chain) {E : Type 0} {f g h : Interner} (j : Interner) {x y both next carry : NodeId} {xs ys xss yss : List NodeId} (r : Result NodeId E)
    → xss ≡ x ∷ xs → yss ≡ y ∷ ys → ¬ (xs ≡ []) → Grows f g 1 → Gate2 term_gates.eq f x y g both → Grows g h 1 → PassesOn chain g both x y carry h next
    → ((us vs : List PlainTerm) (c : PlainTerm) → AreBits h xs us → AreBits h ys vs → Stands h next c → IfOk r (λ id. Stands j id (leaves_range term_gates chain us vs c)))
    → (us vs : List PlainTerm) (c : PlainTerm) → AreBits f xss us → AreBits f yss vs → Stands f carry c → IfOk r (λ id. Stands j id (leaves_range term_gates chain us vs c))
leaves_rest chain j (Ok id) m n z a ea b eb rest us vs c p q t = leaves_further chain m n z a ea b eb rest us vs c p q t
leaves_rest chain j (Err e) m n z a ea b eb rest us vs c p q t = tt

pub leaves_last_any : (chain : Chain) {E : Type 0} {f g h i : Interner} (j : Interner) {x y both next carry same : NodeId} {xs ys xss yss : List NodeId} (r : Result NodeId E)
    → xss ≡ x ∷ xs → yss ≡ y ∷ ys → xs ≡ [] → Grows f g 1 → Gate2 term_gates.eq f x y g both → Grows g h 1 → PassesOn chain g both x y carry h next → Grows h i 1 → Gate2 term_gates.eq h carry next i same → ((u : PlainTerm) → Stands i same u → IfOk r (λ id. Stands j id (term_gates.not u)))
    → (us vs : List PlainTerm) (c : PlainTerm) → AreBits f xss us → AreBits f yss vs → Stands f carry c → IfOk r (λ id. Stands j id (leaves_range term_gates chain us vs c))
leaves_last_any chain j (Ok id) m n z a ea b eb d ed k us vs c p q t = leaves_at_last chain m n z a ea b eb d ed k us vs c p q t
leaves_last_any chain j (Err e) m n z a ea b eb d ed k us vs c p q t = tt
