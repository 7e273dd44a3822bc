-- The texts of lines, one part after the other.
use Rattle.std.proofs.Common.{arith, ℕ, zero, suc, ◌≡◌, ◌+◌, ◌-◌, ◌<◌, ◌≤◌, Bool, true, false, cond, IsTrue, Some, None, List, [], ◌∷◌, ◌++◌, codes, ap, sym, add-one, append_assoc, map, position, drop, take, length, length-drop, get_or, refl}
use Rattle.std.specs.Rc.{rc_str_bytes}
use Rattle.std.specs.declared.rc.RcStr.{RcStr}
use Rattle.std.specs.declared.alloc.Global.{Global}
use Rattle.std.specs.List.{position_or_len}
use Rattle.std.proofs.lemmas.Bool.Decides.{nat_tests}
use Rattle.std.proofs.lemmas.List.{take_all}
use Rattle.std.proofs.lemmas.List.Sums.{fails_before_first}
use Rattle.std.proofs.lemmas.List.Quantifiers.{position-Some}
use Rattle.law_texts.specs.Characters.{is_line_end}
use Rattle.law_texts.specs.LineTexts.{in_comment, sorted_name, spaced, datatype_body}
use Rattle.law_texts.specs.SharedTexts.{text_pair, text_pairs}
use Rattle.law_texts.proofs.Joined.{joined_from, joined_from-drop}

-- ---- names with their sorts

-- one more of them, behind its gap
pub sorted_names-drop : (gap : List ℕ) (ps : List (RcStr Global × RcStr Global)) (i : ℕ) (d : RcStr Global × RcStr Global) (name sort : List ℕ) → i < length ps
    → name ≡ rc_str_bytes d.0 → sort ≡ rc_str_bytes d.1 → d ≡ get_or ps i d
    → joined_from sorted_name gap (codes " ") (text_pairs (drop i ps))
    ≡ (gap ++ sorted_name (name, sort)) ++ joined_from sorted_name (codes " ") (codes " ") (text_pairs (drop (i + 1) ps))
sorted_names-drop gap ps i d name sort h p q at =
    let bytes : sorted_name (name, sort) ≡ sorted_name (text_pair (get_or ps i d)) = rw (p, q) (ap (λ (t : RcStr Global × RcStr Global). sorted_name (text_pair t)) at) in
    joined_from-drop text_pair sorted_name gap (codes " ") ps i d (gap ++ sorted_name (name, sort)) h (ap (λ t. gap ++ t) bytes)

-- ---- a text on one line

in_comment-end : (b : ℕ) → is_line_end b ≡ true → in_comment b ≡ 32
in_comment-end b h = ap (λ t. cond t 32 b) h

in_comment-other : (b : ℕ) → is_line_end b ≡ false → in_comment b ≡ b
in_comment-other b h = ap (λ t. cond t 32 b) h

split_at_end : (xs : List ℕ) (i : ℕ) → i < length xs → is_line_end (get_or xs i 0) ≡ true → ((k : ℕ) → k < i → is_line_end (get_or xs k 0) ≡ false)
    → map in_comment xs ≡ take i xs ++ ((32 ∷ []) ++ map in_comment (drop (suc i) xs))
split_at_end [] i h at below = absurd (omega arith)
split_at_end (x ∷ xs) zero h at below = ap (λ t. t ∷ map in_comment xs) (in_comment-end x at)
split_at_end (x ∷ xs) (suc i) h at below =
    let first : in_comment x ≡ x = in_comment-other x (below 0 (omega arith)) in
    let rest = split_at_end xs i (omega arith) at (λ k l. below (suc k) (omega arith)) in
    cc

-- the part before the first line end, a space, and what is behind
pub line_end-Some : (xs : List ℕ) (i : ℕ) → position is_line_end xs ≡ Some i → map in_comment xs ≡ take i xs ++ ((32 ∷ []) ++ map in_comment (drop (i + 1) xs))
line_end-Some xs i h =
    let f = position-Some is_line_end xs i 0 h in
    rw add-one (split_at_end xs i f.0 f.1 f.2)

-- what stands from a place on, up to the end
pub drop_to_end : (xs : List ℕ) (i : ℕ) → drop i xs ≡ take (length xs - i) (drop i xs)
drop_to_end xs i = sym (take_all (length xs - i) (drop i xs) (omega (arith, length-drop i xs)))

none_at_end : (xs : List ℕ) → ((k : ℕ) → k < length xs → is_line_end (get_or xs k 0) ≡ false) → map in_comment xs ≡ xs
none_at_end [] h = refl
none_at_end (x ∷ xs) h =
    let first : in_comment x ≡ x = in_comment-other x (h 0 (omega arith)) in
    let rest = none_at_end xs (λ k l. h (suc k) (omega arith)) in
    cc

none_found : (p : ℕ → Bool) (xs : List ℕ) → position p xs ≡ None → length xs ≤ position_or_len p xs
none_found p xs h = grind (arith, nat_tests)

-- with no line end the text itself
pub line_end-None : (xs : List ℕ) → position is_line_end xs ≡ None → map in_comment xs ≡ xs
line_end-None xs h =
    let n = none_found is_line_end xs h in
    none_at_end xs (λ k l. fails_before_first is_line_end xs k 0 (omega arith))

-- ---- whole lines, by the parts that are put

pub declare_fun_text-parts : (id args ty : List ℕ) → (codes "(declare-fun " ++ (id ++ codes " (")) ++ (args ++ (codes ") " ++ (ty ++ codes ")\n")))
    ≡ codes "(declare-fun " ++ (id ++ (codes " (" ++ (args ++ (codes ") " ++ (ty ++ codes ")\n")))))
declare_fun_text-parts id args ty = simp append_assoc

pub define_fun_text-parts : (id args ty expr : List ℕ) → (codes "(define-fun " ++ (id ++ codes " (")) ++ (args ++ (codes ") " ++ (ty ++ (codes " " ++ (expr ++ codes ")\n")))))
    ≡ codes "(define-fun " ++ (id ++ (codes " (" ++ (args ++ (codes ") " ++ (ty ++ (codes " " ++ (expr ++ codes ")\n")))))))
define_fun_text-parts id args ty expr = simp append_assoc

pub declare_datatype_text-parts : (id body : List ℕ) → (codes "(declare-datatype " ++ (id ++ codes " ")) ++ (body ++ codes ")\n") ≡ codes "(declare-datatype " ++ (id ++ (codes " " ++ (body ++ codes ")\n")))
declare_datatype_text-parts id body = simp append_assoc

-- with parameters, a datatype is their text and then the constructors in brackets
pub datatype_body-parts : (p c : List ℕ) → (p ≡ [] → IsTrue false) → codes "(par (" ++ (p ++ (codes ") " ++ (datatype_body [] c ++ codes ")"))) ≡ datatype_body p c
datatype_body-parts [] c h = let e : false ≡ true = h refl in absurd (cc)
datatype_body-parts (b ∷ p) c h = simp append_assoc

-- A space stands between two texts.
pub spaced-two : (ts : List (List ℕ)) → 2 ≤ length ts → spaced ts ≡ [] → ⊥
spaced-two [] h e = omega arith
spaced-two (x ∷ []) h e = omega arith
spaced-two ([] ∷ y ∷ ts) h e = cc
spaced-two ((b ∷ x) ∷ y ∷ ts) h e = cc
