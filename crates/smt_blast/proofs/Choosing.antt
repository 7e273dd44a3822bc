-- One step of a choice or a shift, and what is left of it.
use Rattle.std.proofs.Common.{◌≡◌, ℕ, zero, suc, ◌+◌, ◌*◌, ◌-◌, ◌≤◌, ◌<◌, true, false, List, [], ◌∷◌, ◌++◌, length, take, drop, replicate, refl, sym, ap, ◌∙◌, subst, append_assoc, arith}
use Rattle.std.specs.Prelude.{IfOk, OnOk, Result, nat_lt}
use Rattle.std.proofs.Math.Seq.{take-append-add, take-append_seam}
use Rattle.std.proofs.lemmas.List.{append-nil, length-drop, length-replicate, replicate-append-replicate}
use Rattle.law_terms.specs.Plain.{PlainTerm}
use Rattle.law_blasting.specs.Circuits.{any_of, choose, down, shift, up, zeros}
use Rattle.law_blasting.specs.OperatorCircuits.{term_gates}
use Rattle.law_blasting.specs.Sizes.{choose_size, shift_size}
use Rattle.std.proofs.lemmas.Bool.Decides.{nat_tests}
use Rattle.law_blasting.specs.Passing.{none, one}
use Rattle.smt_nodes.specs.declared.id.NodeId.{NodeId}
use Rattle.smt_nodes.specs.declared.interner.Interner.{Interner}
use Rattle.smt_blast.specs.Chains.{moved}
use Rattle.smt_blast.specs.Standing.{AreBits, Grows, Stands}
use Rattle.smt_blast.specs.declared.circuit.Direction.{Direction}
use Rattle.smt_blast.proofs.Standing.{bit_stays, bits_stay, nothing, pushed}

-- ---- choices

choose_short : (c : PlainTerm) (us : List PlainTerm) → choose term_gates c us [] ≡ []
choose_short c [] = refl
choose_short c (u ∷ us) = refl

-- what a call that chooses appends
abbrev pub Chooses : {T E : Type 0} → Interner → NodeId → List NodeId → List NodeId → List NodeId → Interner → List NodeId → Result T E → Type 0
Chooses g bit xs ys old h more r = (us vs ts : List PlainTerm) (c : PlainTerm) → Stands g bit c → AreBits g xs us → AreBits g ys vs → AreBits g old ts → OnOk r (AreBits h more (ts ++ choose term_gates c us vs))

pub chose_nothing : {g : Interner} {bit : NodeId} {xs ys old : List NodeId} → xs ≡ [] → (us vs ts : List PlainTerm) (c : PlainTerm) → Stands g bit c → AreBits g xs us → AreBits g ys vs → AreBits g old ts → AreBits g old (ts ++ choose term_gates c us vs)
chose_nothing {g} {old = old} e us vs ts c t p q w =
    subst (λ (ws : List PlainTerm). AreBits g old (ts ++ choose term_gates c ws vs)) (sym (nothing (subst (λ (l : List NodeId). AreBits g l us) e p))) (subst (λ ws. AreBits g old ws) (sym (append-nil ts)) w)

pub chose_unpaired : {g : Interner} {bit : NodeId} {xs ys old : List NodeId} → ys ≡ [] → (us vs ts : List PlainTerm) (c : PlainTerm) → Stands g bit c → AreBits g xs us → AreBits g ys vs → AreBits g old ts → AreBits g old (ts ++ choose term_gates c us vs)
chose_unpaired {g} {old = old} e us vs ts c t p q w =
    subst (λ (ws : List PlainTerm). AreBits g old (ts ++ choose term_gates c us ws)) (sym (nothing (subst (λ (l : List NodeId). AreBits g l vs) e q))) (subst (λ ws. AreBits g old ws) (sym (ap (λ l. ts ++ l) (choose_short c us) ∙ append-nil ts)) w)

chosen_here : {T E : Type 0} {f g : Interner} (j : Interner) {x y bit first : NodeId} {xs ys old more : List NodeId} (all : List NodeId) (r : Result T E)
    → Grows f g 1 → ((u v w : PlainTerm) → Stands f bit u → Stands f x v → Stands f y w → Stands g first (term_gates.ite u v w)) → more ≡ old ++ first ∷ []
    → Chooses g bit xs ys more j all r → {us vs : List PlainTerm} (ts : List PlainTerm) (c : PlainTerm) → Stands f bit c → AreBits f (x ∷ xs) us → AreBits f (y ∷ ys) vs → AreBits f old ts → OnOk r (AreBits j all (ts ++ choose term_gates c us vs))
chosen_here j all r a ea e rest ts c t (one {y = u} {ys = us} p q) (one {y = v} {ys = vs} s k) w =
    let whole = rest us vs (ts ++ term_gates.ite c u v ∷ []) c (bit_stays a t) (bits_stay a q) (bits_stay a k) (pushed e (bits_stay a w) (ea c u v t p s)) in
    subst (λ (l : List PlainTerm). OnOk r (AreBits j all l)) (append_assoc ts (term_gates.ite c u v ∷ []) (choose term_gates c us vs)) whole

pub chose_further : {T E : Type 0} {f g : Interner} (j : Interner) {x y bit first : NodeId} {xs ys xss yss old more : List NodeId} (all : List NodeId) (r : Result T E)
    → xss ≡ x ∷ xs → yss ≡ y ∷ ys → Grows f g 1 → ((u v w : PlainTerm) → Stands f bit u → Stands f x v → Stands f y w → Stands g first (term_gates.ite u v w)) → more ≡ old ++ first ∷ []
    → Chooses g bit xs ys more j all r → Chooses f bit xss yss old j all r
chose_further {f = f} j all r m n a ea e rest us vs ts c t p q w = chosen_here j all r a ea e rest ts c t (subst (λ (l : List NodeId). AreBits f l us) m p) (subst (λ (l : List NodeId). AreBits f l vs) n q) w

-- ---- whether any is set

pub any_of_none : {g : Interner} {bits : List NodeId} {id : NodeId} → bits ≡ [] → Stands g id term_gates.no → (us : List PlainTerm) → AreBits g bits us → Stands g id (any_of term_gates us)
any_of_none {g} {id = id} e s us p = subst (λ (ws : List PlainTerm). Stands g id (any_of term_gates ws)) (sym (nothing (subst (λ (l : List NodeId). AreBits g l us) e p))) s

any_here : {E : Type 0} {f g : Interner} (h : Interner) {k : ℕ} {first others : NodeId} {bits : List NodeId} (r : Result NodeId E)
    → Grows f g k → ((us : List PlainTerm) → AreBits f bits us → Stands g others (any_of term_gates us)) → ((u v : PlainTerm) → Stands g first u → Stands g others v → IfOk r (λ id. Stands h id (term_gates.or u v)))
    → {us : List PlainTerm} → AreBits f (first ∷ bits) us → IfOk r (λ id. Stands h id (any_of term_gates us))
any_here h r a rest d (one {y = u} {ys = us} p q) = d u (any_of term_gates us) (bit_stays a p) (rest us q)

pub any_of_more : {E : Type 0} {f g : Interner} (h : Interner) {k : ℕ} {first others : NodeId} {bits all : List NodeId} (r : Result NodeId E)
    → all ≡ first ∷ bits → Grows f g k → ((us : List PlainTerm) → AreBits f bits us → Stands g others (any_of term_gates us)) → ((u v : PlainTerm) → Stands g first u → Stands g others v → IfOk r (λ id. Stands h id (term_gates.or u v)))
    → (us : List PlainTerm) → AreBits f all us → IfOk r (λ id. Stands h id (any_of term_gates us))
any_of_more {f = f} h r m a rest d us p = any_here h r a rest d (subst (λ (l : List NodeId). AreBits f l us) m p)

-- ---- moved bits

pub dropped : {i : Interner} (k : ℕ) {ids : List NodeId} {us : List PlainTerm} → AreBits i ids us → AreBits i (drop k ids) (drop k us)
dropped zero h = h
dropped (suc k) none = none
dropped (suc k) (one r h) = dropped k h

pub taken : {i : Interner} (k : ℕ) {ids : List NodeId} {us : List PlainTerm} → AreBits i ids us → AreBits i (take k ids) (take k us)
taken zero h = none
taken (suc k) none = none
taken (suc k) (one r h) = one r (taken k h)

pub copies : {i : Interner} (k : ℕ) (id : NodeId) (u : PlainTerm) → Stands i id u → AreBits i (replicate k id) (replicate k u)
copies zero id u s = none
copies (suc k) id u s = one s (copies k id u s)

take-exact : {X : Type 0} (k : ℕ) (xs ys : List X) → length xs ≡ k → take k (xs ++ ys) ≡ xs
take-exact k xs ys e = ap (λ n. take n (xs ++ ys)) (sym e) ∙ take-append_seam xs ys

pub up_is : (k : ℕ) (us : List PlainTerm) → k ≤ length us → replicate k term_gates.no ++ take (length us - k) us ≡ up term_gates k us
up_is k us h =
    sym (ap (λ n. take n (replicate k term_gates.no ++ us)) (let e : length us ≡ length (replicate k term_gates.no) + (length us - k) = omega (arith, length-replicate k term_gates.no) in e)
    ∙ take-append-add (replicate k term_gates.no) us (length us - k))

pub down_is : (k : ℕ) (us : List PlainTerm) → k ≤ length us → drop k us ++ replicate k term_gates.no ≡ down term_gates k us
down_is k us h =
    let seam : length us ≡ length (drop k us) + k = omega (arith, length-drop k us) in
    let rest : length us ≡ k + (length us - k) = omega arith in
    sym (ap (λ n. take n (drop k us ++ replicate (length us) term_gates.no)) seam ∙ take-append-add (drop k us) (replicate (length us) term_gates.no) k
    ∙ ap (λ l. drop k us ++ l) (ap (λ n. take k (replicate n term_gates.no)) rest ∙ ap (take k) (sym (replicate-append-replicate k (length us - k) term_gates.no))
    ∙ take-exact k (replicate k term_gates.no) (replicate (length us - k) term_gates.no) (length-replicate k term_gates.no)))

-- ---- shifts

stage_on : (move : ℕ → List PlainTerm → List PlainTerm) (n a : ℕ) (v : PlainTerm) (vs us : List PlainTerm) → nat_lt a n ≡ true → shift term_gates move n (2 * a) vs (choose term_gates v (move a us) us) ≡ shift term_gates move n a (v ∷ vs) us
stage_on move n a v vs us e =
    sym (ap (λ t. elim t as (λ s. List PlainTerm) [ true ↦ shift term_gates move n (2 * a) vs (choose term_gates v (move a us) us) | false ↦ choose term_gates (any_of term_gates (v ∷ vs)) (zeros term_gates us) us ]) e)

stage_off : (move : ℕ → List PlainTerm → List PlainTerm) (n a : ℕ) (v : PlainTerm) (vs us : List PlainTerm) → nat_lt a n ≡ false → choose term_gates (any_of term_gates (v ∷ vs)) (zeros term_gates us) us ≡ shift term_gates move n a (v ∷ vs) us
stage_off move n a v vs us e =
    sym (ap (λ t. elim t as (λ s. List PlainTerm) [ true ↦ shift term_gates move n (2 * a) vs (choose term_gates v (move a us) us) | false ↦ choose term_gates (any_of term_gates (v ∷ vs)) (zeros term_gates us) us ]) e)

pub is_less : (a n : ℕ) → a < n → nat_lt a n ≡ true
is_less a n h = grind (arith, nat_tests)

pub is_not_less : (a n : ℕ) → n ≤ a → nat_lt a n ≡ false
is_not_less a n h = grind (arith, nat_tests)

shifted_here : {T E : Type 0} (items : T → List NodeId) {f g : Interner} (j : Interner) {k : ℕ} {bit : NodeId} {higher xs places chosen : List NodeId} (n a b : ℕ) (d : Direction) (r : Result T E)
    → nat_lt a n ≡ true → b ≡ 2 * a → Grows f g k
    → ((us : List PlainTerm) → AreBits f xs us → AreBits f places (moved term_gates d a us))
    → ((us vs ts : List PlainTerm) (c : PlainTerm) → Stands f bit c → AreBits f places us → AreBits f xs vs → AreBits f [] ts → AreBits g chosen (ts ++ choose term_gates c us vs))
    → ((us vs : List PlainTerm) → AreBits g higher vs → AreBits g chosen us → IfOk r (λ bits. AreBits j (items bits) (shift term_gates (moved term_gates d) n b vs us)))
    → (us : List PlainTerm) {vs : List PlainTerm} → AreBits f (bit ∷ higher) vs → AreBits f xs us → IfOk r (λ bits. AreBits j (items bits) (shift term_gates (moved term_gates d) n a vs us))
shifted_here items j n a b d r e m w move chose rest us (one {y = v} {ys = vs} p q) h =
    let here = chose (moved term_gates d a us) us [] v p (move us h) h none in
    let there = rest (choose term_gates v (moved term_gates d a us) us) vs (bits_stay w q) here in
    subst (λ (l : List PlainTerm). IfOk r (λ bits. AreBits j (items bits) l)) (ap (λ (x : ℕ). shift term_gates (moved term_gates d) n x vs (choose term_gates v (moved term_gates d a us) us)) m ∙ stage_on (moved term_gates d) n a v vs us e) there

pub shifted_on : {T E : Type 0} (items : T → List NodeId) {f g : Interner} (j : Interner) {k : ℕ} {bit : NodeId} {higher amount xs places chosen : List NodeId} (n a b : ℕ) (d : Direction) (r : Result T E)
    → amount ≡ bit ∷ higher → nat_lt a n ≡ true → b ≡ 2 * a → Grows f g k
    → ((us : List PlainTerm) → AreBits f xs us → AreBits f places (moved term_gates d a us))
    → ((us vs ts : List PlainTerm) (c : PlainTerm) → Stands f bit c → AreBits f places us → AreBits f xs vs → AreBits f [] ts → AreBits g chosen (ts ++ choose term_gates c us vs))
    → ((us vs : List PlainTerm) → AreBits g higher vs → AreBits g chosen us → IfOk r (λ bits. AreBits j (items bits) (shift term_gates (moved term_gates d) n b vs us)))
    → (us vs : List PlainTerm) → AreBits f amount vs → AreBits f xs us → IfOk r (λ bits. AreBits j (items bits) (shift term_gates (moved term_gates d) n a vs us))
shifted_on items {f} j n a b d r m e s w move chose rest us vs p q = shifted_here items j n a b d r e s w move chose rest us (subst (λ (l : List NodeId). AreBits f l vs) m p) q

shifted_last : {f g h : Interner} {k : ℕ} {bit any : NodeId} {higher xs places chosen : List NodeId} (n a : ℕ) (d : Direction)
    → nat_lt a n ≡ false → Grows f g k
    → ((us : List PlainTerm) → AreBits f (bit ∷ higher) us → Stands g any (any_of term_gates us))
    → ((us : List PlainTerm) → AreBits g xs us → AreBits g places (zeros term_gates us))
    → ((us vs ts : List PlainTerm) (c : PlainTerm) → Stands g any c → AreBits g places us → AreBits g xs vs → AreBits g [] ts → AreBits h chosen (ts ++ choose term_gates c us vs))
    → (us : List PlainTerm) {vs : List PlainTerm} → AreBits f (bit ∷ higher) vs → AreBits f xs us → AreBits h chosen (shift term_gates (moved term_gates d) n a vs us)
shifted_last {h = h} {chosen = chosen} n a d e w any none_set chose us (one {y = v} {ys = vs} p q) k =
    let xs_then = bits_stay w k in
    subst (λ (l : List PlainTerm). AreBits h chosen l) (stage_off (moved term_gates d) n a v vs us e) (chose (zeros term_gates us) us [] (any_of term_gates (v ∷ vs)) (any (v ∷ vs) (one p q)) (none_set us xs_then) xs_then none)

pub shifted_off : {f g h : Interner} {k : ℕ} {bit any : NodeId} {higher amount xs places chosen : List NodeId} (n a : ℕ) (d : Direction)
    → amount ≡ bit ∷ higher → nat_lt a n ≡ false → Grows f g k
    → ((us : List PlainTerm) → AreBits f amount us → Stands g any (any_of term_gates us))
    → ((us : List PlainTerm) → AreBits g xs us → AreBits g places (zeros term_gates us))
    → ((us vs ts : List PlainTerm) (c : PlainTerm) → Stands g any c → AreBits g places us → AreBits g xs vs → AreBits g [] ts → AreBits h chosen (ts ++ choose term_gates c us vs))
    → (us vs : List PlainTerm) → AreBits f amount vs → AreBits f xs us → AreBits h chosen (shift term_gates (moved term_gates d) n a vs us)
shifted_off {f} {g} {any = any} n a d m e w set none_set chose us vs p q =
    shifted_last n a d e w (λ us k. set us (subst (λ (l : List NodeId). AreBits f l us) (sym m) k)) none_set chose us (subst (λ (l : List NodeId). AreBits f l vs) m p) q

-- ---- how many gates

pub size_on : (n a k : ℕ) → nat_lt a n ≡ true → shift_size n a (suc k) ≡ choose_size n + shift_size n (2 * a) k
size_on n a k e = ap (λ t. elim t as (λ s. ℕ) [ true ↦ choose_size n + shift_size n (2 * a) k | false ↦ suc k + choose_size n ]) e

pub size_off : (n a k : ℕ) → nat_lt a n ≡ false → shift_size n a (suc k) ≡ suc k + choose_size n
size_off n a k e = ap (λ t. elim t as (λ s. ℕ) [ true ↦ choose_size n + shift_size n (2 * a) k | false ↦ suc k + choose_size n ]) e
