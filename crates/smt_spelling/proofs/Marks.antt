-- The marks of pushes that are open.
use Rattle.std.proofs.Common.{◌≡◌, ℕ, ◌≤◌, List, [], ◌∷◌, ◌++◌, map, reverse, refl, ap, subst, ◌∙◌, arith}
use Rattle.std.proofs.lemmas.List.{reverse-append}
use Rattle.smt_spelling.specs.Marks.{AreMarks}
use Rattle.smt_spelling.specs.declared.node_names.Mark.{Mark}

-- more texts may be kept since
pub more_kept : (kept more : ℕ) (marks : List Mark) → kept ≤ more → AreMarks kept marks → AreMarks more marks
more_kept kept more [] h are = tt
more_kept kept more (mark ∷ marks) h are = (omega (arith, h, are.0), are.1, are.2)

-- what is the same at each mark is the same at all
pub each_same : {A : Type 0} (f g : Mark → A) (kept : ℕ) (marks : List Mark) → AreMarks kept marks → ((mark : Mark) → mark.kept ≤ kept → f mark ≡ g mark) → map f marks ≡ map g marks
each_same f g kept [] are same = refl
each_same f g kept (mark ∷ marks) are same =
    let here = same mark are.0 in
    let rest = each_same f g mark.kept marks are.2 (λ m h. same m (omega (arith, h, are.0))) in
    λ i. here i ∷ rest i

-- the mark that was made last comes first
pub last_first : (marks rest : List Mark) (mark : Mark) → marks ≡ rest ++ mark ∷ [] → reverse marks ≡ mark ∷ reverse rest
last_first marks rest mark split = ap reverse split ∙ reverse-append rest (mark ∷ [])

pub last_opened : (kept : ℕ) (marks rest : List Mark) (mark : Mark) → marks ≡ rest ++ mark ∷ [] → AreMarks kept (reverse marks) → AreMarks kept (mark ∷ reverse rest)
last_opened kept marks rest mark split are = subst (AreMarks kept) (last_first marks rest mark split) are
