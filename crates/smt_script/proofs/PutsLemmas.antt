-- Puts one after another: what two of them do together, and what a loop has put so far.
use Rattle.std.proofs.Common.{append-nil, zero-add, ℕ, ◌+◌, ◌≡◌, ◌∙◌, List, [], ◌++◌, length, Result, Ok, Err, Option, None, Some, IsOk, refl, sym, ap, append_assoc, length-append, arith, subst, IsErrAnd}
use Rattle.std.specs.Io.KnownBytes.{append_known}
use Rattle.smt_script.specs.Sink.{Puts, AppendsPart}
use Rattle.smt_script.specs.declared.sink.SinkError.{SinkError}

-- what is told grows by two pieces in turn
pub appends_then : (a b c : Option (List ℕ)) (xs ys : List ℕ) → b ≡ append_known a xs → c ≡ append_known b ys → c ≡ append_known a (xs ++ ys)
appends_then None b c xs ys p q = rw (q, p)
appends_then (Some x) b c xs ys p q = rw (q, p, append_assoc)

pub appends_nothing : (a : Option (List ℕ)) → a ≡ append_known a []
appends_nothing None = refl
appends_nothing (Some x) = simp append-nil

-- a part of what comes second, after all of what comes first
pub part-then : (a b c : Option (List ℕ)) (xs ys : List ℕ) → b ≡ append_known a xs → AppendsPart b c ys → AppendsPart a c (xs ++ ys)
part-then a b c xs ys p q = record {
  part = xs ++ q.part;
  rest = q.rest;
  whole = append_assoc xs q.part q.rest ∙ ap (λ t. xs ++ t) q.whole;
  appended = appends_then a b c xs q.part p q.appended;
}

-- a part of what comes first
pub part-of-first : (a b : Option (List ℕ)) (xs ys : List ℕ) → AppendsPart a b xs → AppendsPart a b (xs ++ ys)
part-of-first a b xs ys p = record {
  part = p.part;
  rest = p.rest ++ ys;
  whole = sym (append_assoc p.part p.rest ys) ∙ ap (λ t. t ++ ys) p.whole;
  appended = p.appended;
}

more_room : (xs ys : List ℕ) (n : ℕ) → length (xs ++ ys) + n ≡ length xs + (length ys + n)
more_room xs ys n = omega (arith, length-append xs ys)

-- all of the first, and then the second
pub then : {S T U : Type 0} {contents : S → Option (List ℕ)} {faults : S → ℕ} {has_room : S → ℕ → Type 0} {place : S → List ℕ} {a b c : S} {xs : List ℕ} (ys : List ℕ) {u : U} {r : Result T SinkError}
    → Puts contents faults has_room place a b xs (Ok u) → Puts contents faults has_room place b c ys r → Puts contents faults has_room place a c (xs ++ ys) r
then {contents = contents} {has_room = has_room} {place = place} {a = a} {b} {c} {xs} ys {u} {r = Ok v} p q = record {
  ok = appends_then (contents a) (contents b) (contents c) xs ys p.ok q.ok;
  err = tt;
  later = omega (arith, p.later, q.later);
  no_fault = q.no_fault ∙ p.no_fault;
  same_place = q.same_place ∙ p.same_place;
  cause = λ e. absurd (cc);
  room = λ n t. q.room n (p.room (length ys + n) (subst (λ (k : ℕ). has_room a k) (more_room xs ys n) t)).1;
}
then {contents = contents} {has_room = has_room} {place = place} {a = a} {b} {c} {xs} ys {u} {r = Err e} p q = record {
  ok = tt;
  err = part-then (contents a) (contents b) (contents c) xs ys p.ok q.err;
  later = omega (arith, p.later, q.later);
  no_fault = tt;
  same_place = q.same_place ∙ p.same_place;
  cause = λ f. let rose = q.cause f in let l = p.later in omega arith;
  room = λ n t. q.room n (p.room (length ys + n) (subst (λ (k : ℕ). has_room a k) (more_room xs ys n) t)).1;
}

-- whatever an Ok holds
any_ok : {S T U : Type 0} {contents : S → Option (List ℕ)} {faults : S → ℕ} {has_room : S → ℕ → Type 0} {place : S → List ℕ} {a b : S} {xs : List ℕ} {u : T} (v : U)
    → Puts contents faults has_room place a b xs (Ok u) → Puts contents faults has_room place a b xs (Ok v)
any_ok v p = record {
  ok = p.ok;
  err = tt;
  later = p.later;
  no_fault = p.no_fault;
  cause = λ e. absurd (cc);
  room = λ n t. (refl, (p.room n t).1);
  same_place = p.same_place;
}

-- the same with both whole
pub then_ok : {S U V : Type 0} {contents : S → Option (List ℕ)} {faults : S → ℕ} {has_room : S → ℕ → Type 0} {place : S → List ℕ} {a b c : S} {xs : List ℕ} (ys : List ℕ) {u : U} {v : V}
    → Puts contents faults has_room place a b xs (Ok u) → Puts contents faults has_room place b c ys (Ok v) → Puts {T = Unit {0}} contents faults has_room place a c (xs ++ ys) (Ok tt)
then_ok ys p q = any_ok tt (then ys p q)

err_is_not_ok : (T : Type 0) (e : SinkError) → IsOk {T = T} (Err e) → ⊥
err_is_not_ok T e h = cc

-- stopped in the first
pub stops : {S T U : Type 0} {contents : S → Option (List ℕ)} {faults : S → ℕ} {has_room : S → ℕ → Type 0} {place : S → List ℕ} {a b : S} {xs : List ℕ} (ys : List ℕ) {e : SinkError}
    → Puts {T = T} contents faults has_room place a b xs (Err e) → Puts {T = U} contents faults has_room place a b (xs ++ ys) (Err e)
stops {T = T} {U} {contents = contents} {has_room = has_room} {place = place} {a = a} {b} {xs} ys {e} p = record {
  ok = tt;
  err = part-of-first (contents a) (contents b) xs ys p.err;
  later = p.later;
  no_fault = tt;
  same_place = p.same_place;
  cause = λ f. p.cause (cc);
  room = λ n t. absurd (err_is_not_ok T e (p.room (length ys + n) (subst (λ (k : ℕ). has_room a k) (more_room xs ys n) t)).0);
}

-- the same bytes, grouped in another way
pub along : {S T : Type 0} {contents : S → Option (List ℕ)} {faults : S → ℕ} {has_room : S → ℕ → Type 0} {place : S → List ℕ} {a b : S} {xs ys : List ℕ} {r : Result T SinkError}
    → xs ≡ ys → Puts contents faults has_room place a b xs r → Puts contents faults has_room place a b ys r
along {contents = contents} {faults} {has_room} {place} {a} {b} {r = r} e p =
    let f : List ℕ → Type 0 = λ t. Puts contents faults has_room place a b t r in
    subst f e p

-- the exit of a `?`, which hands the error on
pub exits : {S T : Type 0} {contents : S → Option (List ℕ)} {faults : S → ℕ} {has_room : S → ℕ → Type 0} {place : S → List ℕ} {a b : S} {xs : List ℕ} {r : Result T SinkError} {e : SinkError}
    → IsErrAnd r (λ y. y ≡ e) → Puts {T = T} contents faults has_room place a b xs (Err e) → Puts contents faults has_room place a b xs r
exits {r = Ok v} h p = absurd h
exits {T = T} {contents = contents} {faults} {has_room} {place} {a} {b} {xs} {r = Err y} h p =
    let f : SinkError → Type 0 = λ t. Puts {T = T} contents faults has_room place a b xs (Err t) in
    subst f (sym h) p

-- nothing put yet
pub none_yet : {S : Type 0} {contents : S → Option (List ℕ)} {faults : S → ℕ} {has_room : S → ℕ → Type 0} {place : S → List ℕ} (a : S) → Puts {T = Unit {0}} contents faults has_room place a a [] (Ok tt)
none_yet {contents = contents} {faults} {has_room} {place} a = record {
  ok = appends_nothing (contents a);
  err = tt;
  later = omega arith;
  no_fault = refl;
  same_place = refl;
  cause = λ e. absurd (cc);
  room = λ n t. (refl, subst (λ (k : ℕ). has_room a k) (zero-add n) t);
}

-- what was put and what is left to put are the whole
pub record Going {S : Type 0} (contents : S → Option (List ℕ)) (faults : S → ℕ) (has_room : S → ℕ → Type 0) (place : S → List ℕ) (old new : S) (left whole : List ℕ) : Type 0 where
  pub done : List ℕ
  pub so_far : Puts {T = Unit {0}} contents faults has_room place old new done (Ok tt)
  pub all : done ++ left ≡ whole

pub start : {S : Type 0} {contents : S → Option (List ℕ)} {faults : S → ℕ} {has_room : S → ℕ → Type 0} {place : S → List ℕ} (a : S) (whole : List ℕ) → Going contents faults has_room place a a whole whole
start a whole = record { done = []; so_far = none_yet a; all = refl }

-- one more piece is put
pub goes_on : {S U : Type 0} {contents : S → Option (List ℕ)} {faults : S → ℕ} {has_room : S → ℕ → Type 0} {place : S → List ℕ} {a b c : S} {left whole : List ℕ} (piece left' : List ℕ) {u : U}
    → Going contents faults has_room place a b left whole → left ≡ piece ++ left' → Puts contents faults has_room place b c piece (Ok u) → Going contents faults has_room place a c left' whole
goes_on {left = left} {whole} piece left' g e p = record {
  done = g.done ++ piece;
  so_far = then_ok piece g.so_far p;
  all = append_assoc g.done piece left' ∙ (ap (λ t. g.done ++ t) (sym e) ∙ g.all);
}

-- a piece is put in part
pub goes_wrong : {S T U : Type 0} {contents : S → Option (List ℕ)} {faults : S → ℕ} {has_room : S → ℕ → Type 0} {place : S → List ℕ} {a b c : S} {left whole : List ℕ} (piece left' : List ℕ) {e : SinkError}
    → Going contents faults has_room place a b left whole → left ≡ piece ++ left' → Puts {T = T} contents faults has_room place b c piece (Err e) → Puts {T = U} contents faults has_room place a c whole (Err e)
goes_wrong {U = U} {contents = contents} {faults} {has_room} {place} {a} {c = c} piece left' {e} g eq p =
    let f : List ℕ → Type 0 = λ t. Puts {T = U} contents faults has_room place a c t (Err e) in
    subst f (ap (λ t. g.done ++ t) (sym eq) ∙ g.all) (then (piece ++ left') g.so_far (stops left' p))

-- all pieces are put
pub ends : {S : Type 0} {contents : S → Option (List ℕ)} {faults : S → ℕ} {has_room : S → ℕ → Type 0} {place : S → List ℕ} {a b : S} {left whole : List ℕ}
    → Going contents faults has_room place a b left whole → left ≡ [] → Puts {T = Unit {0}} contents faults has_room place a b whole (Ok tt)
ends {contents = contents} {faults} {has_room} {place} {a} {b} {left} {whole} g e =
    let f : List ℕ → Type 0 = λ t. Puts {T = Unit {0}} contents faults has_room place a b t (Ok tt) in
    subst f (sym (append-nil g.done) ∙ (ap (λ t. g.done ++ t) (sym e) ∙ g.all)) g.so_far

-- the same bytes are left, grouped in another way
pub leaves : {S : Type 0} {contents : S → Option (List ℕ)} {faults : S → ℕ} {has_room : S → ℕ → Type 0} {place : S → List ℕ} {a b : S} {left left' whole : List ℕ}
    → left ≡ left' → Going contents faults has_room place a b left whole → Going contents faults has_room place a b left' whole
leaves e g = record {
  done = g.done;
  so_far = g.so_far;
  all = ap (λ t. g.done ++ t) (sym e) ∙ g.all;
}

-- what is left is put at once
pub goes_last : {S T : Type 0} {contents : S → Option (List ℕ)} {faults : S → ℕ} {has_room : S → ℕ → Type 0} {place : S → List ℕ} {a b c : S} {left whole piece : List ℕ} {r : Result T SinkError}
    → Going contents faults has_room place a b left whole → left ≡ piece → Puts contents faults has_room place b c piece r → Puts contents faults has_room place a c whole r
goes_last {piece = piece} g e p = along (ap (λ t. g.done ++ t) (sym e) ∙ g.all) (then piece g.so_far p)
