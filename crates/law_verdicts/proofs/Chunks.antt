-- Chunks that end with a bracket are cut apart from what follows.
use Rattle.std.proofs.Common.{◌≡◌, ℕ, true, ◌&&◌, List, [], ◌∷◌, ◌++◌, map, refl, sym, ap, ap₂, ◌∙◌, subst}
use Rattle.std.specs.List.{list_all}
use Rattle.std.proofs.lemmas.Bool.{and_from, and_parts}
use Rattle.std.proofs.lemmas.List.Concat.{flat_map-append}
use Rattle.std.proofs.lemmas.List.Folds.{list_all-append}
use Rattle.law_texts.specs.Lexicon.{Piece, Close, Token, each_longest, in_script, is_piece, spell, spelling, stops, token}
use Rattle.law_texts.specs.Reading.{brackets}
use Rattle.law_scripts.specs.Script.{Command, Holds, stated}
use Rattle.law_scripts.proofs.Commands.{one_list_of_commands}
use Rattle.law_verdicts.specs.Chunks.{AreChunks, ChunksAreCommands, IsChunk}

-- where something follows a piece, what follows that is no matter
pub stops_so : (x : Piece) (rest more : List ℕ) → (rest ≡ [] → ⊥) → stops x rest ≡ true → stops x (rest ++ more) ≡ true
stops_so x [] more some h = absurd (some refl)
stops_so x (b ∷ rest) more some h = h

not_empty : (front : List ℕ) (b : ℕ) (rest : List ℕ) → front ++ b ∷ rest ≡ [] → ⊥
not_empty [] b rest h = cc
not_empty (x ∷ front) b rest h = cc

-- with a bracket at its end
abbrev pub closed : List Piece → List Piece
closed front = front ++ Close ∷ []

nothing_longer : (more : List ℕ) → stops Close more ≡ true
nothing_longer [] = refl
nothing_longer (b ∷ more) = refl

closed_append : (front ys : List Piece) → each_longest (closed front) ≡ true → each_longest ys ≡ true → each_longest (closed front ++ ys) ≡ true
closed_append [] ys h k = and_from (stops Close (spell ys)) (each_longest ys) (nothing_longer (spell ys)) k
closed_append (x ∷ front) ys h k =
    let p = and_parts (is_piece x) (stops x (spell (closed front)) && each_longest (closed front)) h in
    let q = and_parts (stops x (spell (closed front))) (each_longest (closed front)) p.1 in
    let some : spell (closed front) ≡ [] → ⊥ = λ e. not_empty (spell front) 41 [] (sym (flat_map-append spelling front (Close ∷ [])) ∙ e) in
    let far : stops x (spell (closed front ++ ys)) ≡ true = ap (stops x) (flat_map-append spelling (closed front) ys) ∙ stops_so x (spell (closed front)) (spell ys) some q.0 in
    and_from (is_piece x) (stops x (spell (closed front ++ ys)) && each_longest (closed front ++ ys)) p.0
    (and_from (stops x (spell (closed front ++ ys))) (each_longest (closed front ++ ys)) far (closed_append front ys q.1 k))

chunk_then : (chunk rest : List ℕ) (c : Command) (cs : List Command) → IsChunk chunk c → Holds rest cs → Holds (chunk ++ rest) (c ∷ cs)
chunk_then chunk rest c cs a b =
    let xs = a.holds.reads.pieces in
    let ys = b.reads.pieces in
    record {
      reads = record {
        pieces = xs ++ ys;
        cut = record {
          spelled = ap₂ (λ (s t : List ℕ). s ++ t) a.holds.reads.cut.spelled b.reads.cut.spelled ∙ sym (flat_map-append spelling xs ys);
          longest = subst (λ zs. each_longest (zs ++ ys) ≡ true) (sym a.ends) (closed_append a.front ys (subst (λ zs. each_longest zs ≡ true) a.ends a.holds.reads.cut.longest) b.reads.cut.longest);
        };
        tokens_are = flat_map-append token xs ys ∙ ap₂ (λ (s t : List Token). s ++ t) a.holds.reads.tokens_are b.reads.tokens_are ∙ sym (flat_map-append brackets (stated c ∷ []) (map stated cs));
      };
      plain = list_all-append in_script xs ys ∙ and_from (list_all in_script xs) (list_all in_script ys) a.holds.plain b.plain;
    }

chunks_hold : (bytes : List ℕ) (cs : List Command) → AreChunks bytes cs → Holds bytes cs
chunks_hold bytes [] h = h
chunks_hold bytes (c ∷ cs) h = subst (λ t. Holds t (c ∷ cs)) (sym h.2) (chunk_then h.0 h.1 c cs h.3 (chunks_hold h.1 cs h.4))

pub chunks_are_commands : ChunksAreCommands
chunks_are_commands = record { whole = chunks_hold; others = λ bytes cs ds h k. one_list_of_commands bytes cs ds (chunks_hold bytes cs h) k }
