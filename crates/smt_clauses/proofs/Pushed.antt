-- Clauses stay what they are when literals come behind them.
use Rattle.std.proofs.Common.{◌≡◌, ◌≤◌, ◌+◌, ◌-◌, ℕ, List, [], ◌∷◌, ◌++◌, length, take, drop, map, arith, ap, refl, sym, subst, ◌∙◌}
use Rattle.std.specs.Prelude.{max, suc, zero}
use Rattle.std.proofs.lemmas.List.{take-append-le, drop-append-le, map-append}
use Rattle.std.proofs.Math.Seq.{drop-append_seam, take-length}
use Rattle.std.proofs.Common.{length-drop, length-append}
use Rattle.smt_clauses.proofs.Variables.{count_of-append}
use Rattle.smt_clauses.specs.Spans.{AreWithin, IsWithin, clause_at, clauses_of}
use Rattle.smt_clauses.specs.Variables.{count_in, count_of}
use Rattle.smt_clauses.specs.declared.clause_list.Span.{Span}

pub clause_at-append : (xs ys : List ℕ) (s : Span) → IsWithin (length xs) s → clause_at (xs ++ ys) s ≡ clause_at xs s
clause_at-append xs ys s w =
    ap (take (s.end - s.start)) (drop-append-le s.start xs ys (omega arith)) ∙ take-append-le (s.end - s.start) (drop s.start xs) ys (omega (arith, length-drop s.start xs))

pub clauses-append : (xs ys : List ℕ) (ss : List Span) → AreWithin (length xs) ss → map (clause_at (xs ++ ys)) ss ≡ map (clause_at xs) ss
clauses-append xs ys [] h = refl
clauses-append xs ys (s ∷ ss) h =
    ap (λ (c : List ℕ). c ∷ map (clause_at (xs ++ ys)) ss) (clause_at-append xs ys s (h 0 s refl))
    ∙ ap (λ (cs : List (List ℕ)). clause_at xs s ∷ cs) (clauses-append xs ys ss (λ k t e. h (suc k) t e))

-- what is pushed stands at the end
pub clause_at-last : (xs ys : List ℕ) (s : Span) → s.start ≡ length xs → s.end ≡ length xs + length ys → clause_at (xs ++ ys) s ≡ ys
clause_at-last xs ys s e f =
    ap (λ (n : ℕ). take (s.end - s.start) (drop n (xs ++ ys))) e
    ∙ (ap (take (s.end - s.start)) (drop-append_seam xs ys) ∙ (ap (λ (n : ℕ). take n ys) (let g : s.end - s.start ≡ length ys = omega arith in g) ∙ take-length ys))

pub clauses-push : (xs ys : List ℕ) (ss : List Span) (s : Span) → AreWithin (length xs) ss → s.start ≡ length xs → s.end ≡ length xs + length ys → map (clause_at (xs ++ ys)) (ss ++ s ∷ []) ≡ map (clause_at xs) ss ++ ys ∷ []
clauses-push xs ys ss s h e f =
    map-append (clause_at (xs ++ ys)) ss (s ∷ [])
    ∙ (ap (λ (cs : List (List ℕ)). cs ++ clause_at (xs ++ ys) s ∷ []) (clauses-append xs ys ss h)
    ∙ ap (λ (c : List ℕ). map (clause_at xs) ss ++ c ∷ []) (clause_at-last xs ys s e f))

pub within-more : (m n : ℕ) (ss : List Span) → m ≤ n → AreWithin m ss → AreWithin n ss
within-more m n ss le h k s e = let w : IsWithin m s = h k s e in record { ordered = w.ordered; ends = omega arith }

pub within-push : (n : ℕ) (ss : List Span) (s : Span) → AreWithin n ss → IsWithin n s → AreWithin n (ss ++ s ∷ [])
within-push n [] s h w zero t e = let same : s ≡ t = cc in subst (IsWithin n) same w
within-push n [] s h w (suc k) t e = cc
within-push n (x ∷ ss) s h w zero t e = h zero t e
within-push n (x ∷ ss) s h w (suc k) t e = within-push n ss s (λ j u d. h (suc j) u d) w k t e

-- literals came behind the others, and no clause
pub clauses-same : (xs ys zs : List ℕ) (ss ts : List Span) → zs ≡ xs ++ ys → ts ≡ ss → AreWithin (length xs) ss → clauses_of zs ts ≡ clauses_of xs ss
clauses-same xs ys zs ss ts e f h = ap (λ (ls : List ℕ). clauses_of ls ts) e ∙ (ap (clauses_of (xs ++ ys)) f ∙ clauses-append xs ys ss h)

pub within-same : (xs ys zs : List ℕ) (ss ts : List Span) → zs ≡ xs ++ ys → ts ≡ ss → AreWithin (length xs) ss → AreWithin (length zs) ts
within-same xs ys zs ss ts e f h =
    let longer : length zs ≡ length xs + length ys = ap length e ∙ length-append xs ys in
    subst (AreWithin (length zs)) (sym f) (within-more (length xs) (length zs) ss (omega (arith, longer)) h)

-- literals came behind the others, and a clause of them
pub clauses-pushed : (xs ys zs : List ℕ) (ss ts : List Span) (s : Span) → zs ≡ xs ++ ys → ts ≡ ss ++ s ∷ [] → AreWithin (length xs) ss → s.start ≡ length xs → s.end ≡ length xs + length ys → clauses_of zs ts ≡ clauses_of xs ss ++ ys ∷ []
clauses-pushed xs ys zs ss ts s e f h g i = ap (λ (ls : List ℕ). clauses_of ls ts) e ∙ (ap (clauses_of (xs ++ ys)) f ∙ clauses-push xs ys ss s h g i)

pub within-pushed : (xs ys zs : List ℕ) (ss ts : List Span) (s : Span) → zs ≡ xs ++ ys → ts ≡ ss ++ s ∷ [] → AreWithin (length xs) ss → s.start ≡ length xs → s.end ≡ length xs + length ys → AreWithin (length zs) ts
within-pushed xs ys zs ss ts s e f h g i =
    let longer : length zs ≡ length xs + length ys = ap length e ∙ length-append xs ys in
    subst (AreWithin (length zs)) (sym f) (within-push (length zs) ss s (within-more (length xs) (length zs) ss (omega (arith, longer)) h) (record { ordered = omega (arith, g, i); ends = omega (arith, longer, i) }))

-- so there is a clause more to count
pub counted-pushed : (m n k : ℕ) (cs ds : List (List ℕ)) (c : List ℕ) → ds ≡ cs ++ c ∷ [] → m ≡ count_of cs → n ≡ count_in c → k ≡ max m n → k ≡ count_of ds
counted-pushed m n k cs ds c e f g h =
    h ∙ (ap (λ (x : ℕ). max x n) f ∙ (ap (max (count_of cs)) g ∙ (sym (count_of-append cs c) ∙ ap count_of (sym e))))
