-- Streams that end with status 0: what stands before a command, and what was put.
use Rattle.std.proofs.Common.{◌≡◌, ◌⊎◌, ◌≤◌, ◌<◌, ℕ, zero, suc, Bool, true, false, not, ◌&&◌, ◌||◌, eqb, eqb-true, List, [], ◌∷◌, ◌++◌, length, refl, sym, ap, ap₂, ◌∙◌, subst, inl, inr, append_assoc, arith, Option, Some, None}
use Rattle.std.specs.List.{list_all}
use Rattle.std.proofs.lemmas.Bool.{and_from, cases_Bool, cond-false, cond-true, false≢true}
use Rattle.std.proofs.lemmas.List.{append-nil, append_cancel_left, length-append}
use Rattle.law_texts.specs.Lexicon.{Comment, Space, each_longest, is_line_end, is_piece, is_space, spell, stops}
use Rattle.law_texts.specs.Reading.{Reads}
use Rattle.law_texts.specs.Tokens.{IsReadWithin}
use Rattle.law_verdicts.specs.Machine.{Ended, Line, Machine, Model, Nothing, Reply, put_at, turn}
use Rattle.law_verdicts.specs.Scan.{Between, InComment, Place, Scan, at_depth, ends_command, first_command, in_front, scanned}
use Rattle.law_verdicts.specs.Streams.{Course, Exited, IsAccepted, IsAnswered, IsRequest, Request, Standing, Stopped, TakesAll, Waiting, any_odd, asked, behind_turn, course_at, is_blank_or_opens, is_stray, most_open, put_for_requests, status_at}
use Rattle.law_verdicts.proofs.Scan.{front_of, joins, not_special, one_byte, or_none, pair, plain_byte}
use Rattle.law_verdicts.proofs.StreamPieces.{cut_behind, depth_stays, kept_blank, kept_inside}
use Rattle.law_verdicts.proofs.Streams.{Breaks, Reaches, Waits, any_stray, ends_outside, held_is, kept, machine_stays, none_in_front, odd_is, scan_goes_on, scanned_all, silent_exited, silent_stopped, up_to_end, with_bytes, within_one}

-- ---- white space and comments

reads_none : Reads [] []
reads_none = record { pieces = []; cut = record { spelled = refl; longest = refl }; tokens_are = refl }

nothing_longer : (b : ℕ) (bytes : List ℕ) → stops (Space b) bytes ≡ true
nothing_longer b [] = refl
nothing_longer b (c ∷ bytes) = refl

space_then : (b : ℕ) (blank : List ℕ) → is_space b ≡ true → Reads blank [] → Reads (b ∷ blank) []
space_then b blank h r = record {
  pieces = Space b ∷ r.pieces;
  cut = record {
    spelled = ap (λ (t : List ℕ). b ∷ t) r.cut.spelled;
    longest = and_from (is_piece (Space b)) (stops (Space b) (spell r.pieces) && each_longest r.pieces) h (and_from (stops (Space b) (spell r.pieces)) (each_longest r.pieces) (nothing_longer b (spell r.pieces)) r.cut.longest);
  };
  tokens_are = r.tokens_are;
}

comment_then : (text blank : List ℕ) → list_all (λ b. not (is_line_end b)) text ≡ true → stops (Comment text) blank ≡ true → Reads blank [] → Reads (59 ∷ (text ++ blank)) []
comment_then text blank h far r = record {
  pieces = Comment text ∷ r.pieces;
  cut = record {
    spelled = ap (λ (t : List ℕ). 59 ∷ (text ++ t)) r.cut.spelled;
    longest = and_from (is_piece (Comment text)) (stops (Comment text) (spell r.pieces) && each_longest r.pieces) h
        (and_from (stops (Comment text) (spell r.pieces)) (each_longest r.pieces) (ap (stops (Comment text)) (sym r.cut.spelled) ∙ far) r.cut.longest);
  };
  tokens_are = r.tokens_are;
}

abbrev outside : Scan
outside = at_depth 0 Between

-- It is empty, or begins with a bracket.
abbrev Opens : List ℕ → Type 0
Opens rest = (rest ≡ []) ⊎ ((more : List ℕ) × (rest ≡ 40 ∷ more))

-- The bytes are white space and comments up to the first bracket.
record Fronted (bs : List ℕ) : Type 0 where
  blank : List ℕ
  rest : List ℕ
  whole : bs ≡ blank ++ rest
  is_blank : Reads blank []
  opens : Opens rest
  kept_is : kept outside bs ≡ kept outside rest
  cut_is : first_command outside bs ≡ in_front blank (first_command outside rest)
  depth_is : (scanned_all outside bs).depth ≡ (scanned_all outside rest).depth

abbrev inside_comment : Scan
inside_comment = at_depth 0 InComment

-- The bytes are the rest of a comment, and then white space and comments up to the first bracket.
record Commented (bs : List ℕ) : Type 0 where
  text : List ℕ
  blank : List ℕ
  rest : List ℕ
  whole : bs ≡ text ++ (blank ++ rest)
  lines : list_all (λ b. not (is_line_end b)) text ≡ true
  far : stops (Comment text) blank ≡ true
  is_blank : Reads blank []
  opens : Opens rest
  kept_is : kept inside_comment bs ≡ kept outside rest
  cut_is : first_command inside_comment bs ≡ in_front (text ++ blank) (first_command outside rest)
  depth_is : (scanned_all inside_comment bs).depth ≡ (scanned_all outside rest).depth

abbrev Cut : Type 0
Cut = Option (List ℕ × List ℕ)

front_front : (a b : List ℕ) (o : Cut) → in_front a (in_front b o) ≡ in_front (a ++ b) o
front_front a b (Some p) = ap (λ t. Some (t, p.1)) (sym (append_assoc a b p.0))
front_front a b None = refl

front_none : (o : Cut) → o ≡ in_front [] o
front_none (Some p) = refl
front_none None = refl

front_space : (b : ℕ) (bs : List ℕ) → is_space b ≡ true → Fronted bs → Fronted (b ∷ bs)
front_space b bs h f =
    let special = not_special is_space refl refl refl refl b h in
    let p = plain_byte 0 b special in
    record {
      blank = b ∷ f.blank;
      rest = f.rest;
      whole = ap (λ (t : List ℕ). b ∷ t) f.whole;
      is_blank = space_then b f.blank h f.is_blank;
      opens = f.opens;
      kept_is = kept_blank b bs special ∙ f.kept_is;
      cut_is = one_byte outside b bs p.0 ∙ ap (λ s. in_front (b ∷ []) (first_command s bs)) p.1 ∙ ap (in_front (b ∷ [])) f.cut_is ∙ front_front (b ∷ []) f.blank (first_command outside f.rest);
      depth_is = ap (λ s. (scanned_all s bs).depth) p.1 ∙ f.depth_is;
    }

front_comment : (bs : List ℕ) → Commented bs → Fronted (59 ∷ bs)
front_comment bs c = record {
  blank = 59 ∷ (c.text ++ c.blank);
  rest = c.rest;
  whole = ap (λ (t : List ℕ). 59 ∷ t) (c.whole ∙ sym (append_assoc c.text c.blank c.rest));
  is_blank = comment_then c.text c.blank c.lines c.far c.is_blank;
  opens = c.opens;
  kept_is = c.kept_is;
  cut_is = one_byte outside 59 bs refl ∙ ap (in_front (59 ∷ [])) c.cut_is ∙ front_front (59 ∷ []) (c.text ++ c.blank) (first_command outside c.rest);
  depth_is = c.depth_is;
}

front_open : (bs : List ℕ) → Fronted (40 ∷ bs)
front_open bs = record { blank = []; rest = 40 ∷ bs; whole = refl; is_blank = reads_none; opens = inr (bs, refl); kept_is = refl; cut_is = front_none (first_command outside (40 ∷ bs)); depth_is = refl }

comment_ends : (b : ℕ) (bs : List ℕ) → is_line_end b ≡ true → Fronted bs → Commented (b ∷ bs)
comment_ends b bs h f =
    let goes = cond-true (is_line_end b) outside inside_comment h in
    record {
      text = [];
      blank = b ∷ f.blank;
      rest = f.rest;
      whole = ap (λ (t : List ℕ). b ∷ t) f.whole;
      lines = refl;
      far = ap (λ x. not (not x)) h;
      is_blank = space_then b f.blank (line_space b h) f.is_blank;
      opens = f.opens;
      kept_is = ap (λ s. kept s bs) goes ∙ f.kept_is;
      cut_is = one_byte inside_comment b bs (none_ends b) ∙ ap (λ s. in_front (b ∷ []) (first_command s bs)) goes ∙ ap (in_front (b ∷ [])) f.cut_is ∙ front_front (b ∷ []) f.blank (first_command outside f.rest);
      depth_is = ap (λ s. (scanned_all s bs).depth) goes ∙ f.depth_is;
    }
  where
    none_ends : (x : ℕ) → ends_command inside_comment x ≡ false
    none_ends x = by (eqb x 41)
      where
        by : (y : Bool) → (y && (false && eqb 0 1)) ≡ false
        by true = refl
        by false = refl

    line_space : (x : ℕ) → is_line_end x ≡ true → is_space x ≡ true
    line_space x e = by (eqb x 32) (eqb x 9) (is_line_end x) (eqb x 12) e
      where
        by : (p q r t : Bool) → r ≡ true → (((p || q) || r) || t) ≡ true
        by true q r t k = refl
        by false true r t k = refl
        by false false r t k = ap (λ y. y || t) k

comment_on : (b : ℕ) (bs : List ℕ) → is_line_end b ≡ false → Commented bs → Commented (b ∷ bs)
comment_on b bs h c =
    let goes = cond-false (is_line_end b) outside inside_comment h in
    record {
      text = b ∷ c.text;
      blank = c.blank;
      rest = c.rest;
      whole = ap (λ (t : List ℕ). b ∷ t) c.whole;
      lines = and_from (not (is_line_end b)) (list_all (λ x. not (is_line_end x)) c.text) (ap not h) c.lines;
      far = c.far;
      is_blank = c.is_blank;
      opens = c.opens;
      kept_is = ap (λ s. kept s bs) goes ∙ c.kept_is;
      cut_is = one_byte inside_comment b bs (none_ends (eqb b 41)) ∙ ap (λ s. in_front (b ∷ []) (first_command s bs)) goes ∙ ap (in_front (b ∷ [])) c.cut_is ∙ front_front (b ∷ []) (c.text ++ c.blank) (first_command outside c.rest);
      depth_is = ap (λ s. (scanned_all s bs).depth) goes ∙ c.depth_is;
    }
  where
    none_ends : (y : Bool) → (y && (false && eqb 0 1)) ≡ false
    none_ends true = refl
    none_ends false = refl

abbrev place : Bool → Place
place true = InComment
place false = Between

abbrev Front : Bool → List ℕ → Type 0
Front true bs = Commented bs
Front false bs = Fronted bs

-- where no byte is of a token outside brackets
front : (bs : List ℕ) (p : Bool) → any_stray (at_depth 0 (place p)) bs ≡ false → Front p bs
front [] false h = record { blank = []; rest = []; whole = refl; is_blank = reads_none; opens = inl refl; kept_is = refl; cut_is = refl; depth_is = refl }
front [] true h = record { text = []; blank = []; rest = []; whole = refl; lines = refl; far = refl; is_blank = reads_none; opens = inl refl; kept_is = refl; cut_is = refl; depth_is = refl }
front (b ∷ bs) false h =
    let p = or_none (is_stray outside b) (any_stray (scanned outside b) bs) h in
    by (front bs) (is_space b) (eqb b 59) (eqb b 40) refl refl refl (truly (is_blank_or_opens b) p.0) p.1
  where
    truly : (x : Bool) → not x ≡ false → x ≡ true
    truly true e = refl
    truly false e = absurd (false≢true (sym e))

    by : ((q : Bool) → any_stray (at_depth 0 (place q)) bs ≡ false → Front q bs) → (x y z : Bool) → is_space b ≡ x → eqb b 59 ≡ y → eqb b 40 ≡ z → (is_space b || (eqb b 59 || eqb b 40)) ≡ true → any_stray (scanned outside b) bs ≡ false → Fronted (b ∷ bs)
    by again true y z e f g k calm = front_space b bs e (again false (ap (λ s. any_stray s bs) (sym (plain_byte 0 b (not_special is_space refl refl refl refl b e)).1) ∙ calm))
    by again false true z e f g k calm = subst (λ x. Fronted (x ∷ bs)) (sym (eqb-true b 59 f)) (front_comment bs (again true (subst (λ x. any_stray (scanned outside x) bs ≡ false) (eqb-true b 59 f) calm)))
    by again false false true e f g k calm = subst (λ x. Fronted (x ∷ bs)) (sym (eqb-true b 40 g)) (front_open bs)
    by again false false false e f g k calm = absurd (false≢true (sym (ap₂ (λ x y. x || y) e (ap₂ (λ x y. x || y) f g)) ∙ k))
front (b ∷ bs) true h =
    let p = or_none (is_stray inside_comment b) (any_stray (scanned inside_comment b) bs) h in
    by (front bs) (is_line_end b) refl p.1
  where
    by : ((q : Bool) → any_stray (at_depth 0 (place q)) bs ≡ false → Front q bs) → (x : Bool) → is_line_end b ≡ x → any_stray (scanned inside_comment b) bs ≡ false → Commented (b ∷ bs)
    by again true e calm = comment_ends b bs e (again false (ap (λ s. any_stray s bs) (sym (cond-true (is_line_end b) outside inside_comment e)) ∙ calm))
    by again false e calm = comment_on b bs e (again true (ap (λ s. any_stray s bs) (sym (cond-false (is_line_end b) outside inside_comment e)) ∙ calm))

-- ---- a command and what stands before it

-- what is cut off is cut off of itself
alone : (s : Scan) (bs : List ℕ) (p : List ℕ × List ℕ) → first_command s bs ≡ Some p → first_command s p.0 ≡ Some (p.0, [])
alone s [] p h = absurd cc
alone s (b ∷ bs) p h = elim (cases_Bool (ends_command s b)) [
  | inl e ↦ subst (λ (x : List ℕ × List ℕ). first_command s x.0 ≡ Some (x.0, [])) (pair (b ∷ [], bs) p (sym (cond-true (ends_command s b) (Some (b ∷ [], bs)) (in_front (b ∷ []) (first_command (scanned s b) bs)) e) ∙ h))
      (cond-true (ends_command s b) (Some (b ∷ [], [])) (in_front (b ∷ []) (first_command (scanned s b) [])) e)
  | inr e ↦ (let q = front_of b (first_command (scanned s b) bs) p (sym (one_byte s b bs e) ∙ h) in
      subst (λ (x : List ℕ × List ℕ). first_command s x.0 ≡ Some (x.0, [])) q.2 (one_byte s b q.0.0 e ∙ ap (in_front (b ∷ [])) (alone (scanned s b) bs q.0 q.1)))
]

-- what is cut off behind a front
behind_front : (front : List ℕ) (rest : List ℕ) (o : Cut) → in_front front o ≡ Some (front ++ rest, []) → o ≡ Some (rest, [])
behind_front front rest None h = absurd cc
behind_front front rest (Some q) h =
    let e = pair (front ++ q.0, q.1) (front ++ rest, []) h in
    let first : front ++ q.0 ≡ front ++ rest = ap (λ (x : List ℕ × List ℕ). x.0) e in
    let second : q.1 ≡ [] = ap (λ (x : List ℕ × List ℕ). x.1) e in
    ap Some (ap₂ (λ (x y : List ℕ). (x, y)) (append_cancel_left front q.0 rest first) second)

-- the command of a chunk, and white space and comments before it
record Cuts (chunk : List ℕ) : Type 0 where
  blank : List ℕ
  whole : chunk ≡ blank ++ kept outside chunk
  is_blank : Reads blank []

cuts : (chunk : List ℕ) → any_stray outside chunk ≡ false → first_command outside chunk ≡ Some (chunk, []) → Cuts chunk
cuts chunk calm found = by (front chunk false calm)
  where
    by : Fronted chunk → Cuts chunk
    by f = opened f.opens
      where
        opened : Opens f.rest → Cuts chunk
        opened (inl none) = absurd (never (sym found ∙ f.cut_is ∙ ap (λ t. in_front f.blank (first_command outside t)) none))
          where
            never : Some (chunk, []) ≡ in_front f.blank (first_command outside []) → ⊥
            never e = cc
        opened (inr (more, e)) =
            let cut : first_command outside f.rest ≡ Some (f.rest, []) = behind_front f.blank f.rest (first_command outside f.rest) (sym f.cut_is ∙ found ∙ ap (λ t. Some (t, [])) f.whole) in
            let cut_open : first_command outside (40 ∷ more) ≡ Some (40 ∷ more, []) = subst (λ t. first_command outside t ≡ Some (t, [])) e cut in
            let all : kept outside (40 ∷ more) ≡ 40 ∷ more = ap (λ (t : List ℕ). 40 ∷ t) (kept_inside more 0 (at_depth 1 Between) refl (cut_behind 40 more (first_command (at_depth 1 Between) more) (sym (one_byte outside 40 more refl) ∙ cut_open))) in
            record { blank = f.blank; whole = f.whole ∙ ap (λ t. f.blank ++ t) (e ∙ sym all ∙ ap (kept outside) (sym e) ∙ sym f.kept_is); is_blank = f.is_blank }

-- inside a command brackets stay open
stays_open : (bs : List ℕ) (d : ℕ) (s : Scan) → s.depth ≡ suc d → first_command s bs ≡ None → (n : ℕ) × ((scanned_all s bs).depth ≡ suc n)
stays_open [] d s e h = (d, e)
stays_open (b ∷ bs) d s e h = elim (cases_Bool (ends_command s b)) [
  | inl k ↦ absurd (never (b ∷ [], bs) (sym (cond-true (ends_command s b) (Some (b ∷ [], bs)) (in_front (b ∷ []) (first_command (scanned s b) bs)) k) ∙ h))
  | inr k ↦ (let n = depth_stays d b s e k in stays_open bs n.0 (scanned s b) n.1 (none_in_front b (first_command (scanned s b) bs) (sym (one_byte s b bs k) ∙ h)))
]
  where
    never : (p : List ℕ × List ℕ) → Some p ≡ None → ⊥
    never p x = cc

none_behind : (front : List ℕ) (o : Cut) → in_front front o ≡ None → o ≡ None
none_behind front (Some p) h = absurd cc
none_behind front None h = refl

-- where no command ends and no bracket is open, there is white space and comments
blank_end : (bs : List ℕ) → any_stray outside bs ≡ false → first_command outside bs ≡ None → (scanned_all outside bs).depth ≡ 0 → Reads bs []
blank_end bs calm none closed = by (front bs false calm)
  where
    by : Fronted bs → Reads bs []
    by f = opened f.opens
      where
        opened : Opens f.rest → Reads bs []
        opened (inl e) = subst (λ t. Reads t []) (sym (f.whole ∙ ap (λ t. f.blank ++ t) e ∙ append-nil f.blank)) f.is_blank
        opened (inr (more, e)) =
            let cut : first_command outside (40 ∷ more) ≡ None = ap (first_command outside) (sym e) ∙ none_behind f.blank (first_command outside f.rest) (sym f.cut_is ∙ none) in
            let n = stays_open more 0 (at_depth 1 Between) refl (none_in_front 40 (first_command (at_depth 1 Between) more) (sym (one_byte outside 40 more refl) ∙ cut)) in
            absurd (zero_is n.0 (sym closed ∙ f.depth_is ∙ ap (λ t. (scanned_all outside t).depth) e ∙ n.1))
          where
            zero_is : (k : ℕ) → 0 ≡ suc k → ⊥
            zero_is k x = omega (arith, x)

-- ---- streams that are accepted

not_stopped : (last : Standing) → last ≡ Stopped → status_at last ≡ 0 → ⊥
not_stopped last e h = omega (arith, ap status_at e, h)

accept_none : (m : Machine) (bytes out : List ℕ) (last : Standing) → out ≡ [] → Reads bytes [] → IsAccepted m bytes out last
accept_none m bytes out last e r = record { requests = []; rest = bytes; are = refl; put = e; ends = inl r }

-- one request more
accept_more : (m next : Machine) (reply : List ℕ) (r : Request) (bytes chunk rest out later : List ℕ) (last : Standing) → bytes ≡ chunk ++ rest → IsRequest chunk r
    → ((rs : List Request) → put_at (turn (asked r.odd m) r.expression) (λ n. put_for_requests n rs) ≡ reply ++ put_for_requests next rs) → out ≡ reply ++ later → IsAccepted next rest later last → IsAccepted m bytes out last
accept_more m next reply r bytes chunk rest out later last e is all f a =
    record { requests = r ∷ a.requests; rest = a.rest; are = (chunk, rest, e, is, a.are); put = f ∙ ap (λ t. reply ++ t) a.put ∙ sym (all a.requests); ends = a.ends }

-- `exit`
accept_exit : (m next : Machine) (r : Request) (bytes chunk rest out : List ℕ) (last : Standing) → bytes ≡ chunk ++ rest → IsRequest chunk r → turn (asked r.odd m) r.expression ≡ Some (Ended, next) → out ≡ [] → last ≡ Exited → IsAccepted m bytes out last
accept_exit m next r bytes chunk rest out last e is t f g =
    record { requests = r ∷ []; rest = rest; are = (chunk, rest, e, is, refl); put = f ∙ sym (ap (λ x. put_at x (λ n. put_for_requests n [])) t); ends = inr g }

turned : (m : Machine) (r : Request) (n : ℕ) (bytes chunk rest now later out : List ℕ) (next last : Standing) (x : Option (Reply × Machine)) → turn (asked r.odd m) r.expression ≡ x → bytes ≡ chunk ++ rest → IsRequest chunk r
    → now ≡ put_at x (λ k. []) → next ≡ behind_turn outside n x → TakesAll next rest later last → out ≡ now ++ later → status_at last ≡ 0
    → ((k : Machine) → TakesAll (Waiting (course_at k n)) rest later last → IsAccepted k rest later last) → IsAccepted m bytes out last
turned m r n bytes chunk rest now later out next last None t e is put stands taken f ok again =
    absurd (not_stopped last (silent_stopped rest later last (subst (λ y. TakesAll y rest later last) stands taken)).1 ok)
turned m r n bytes chunk rest now later out next last (Some (Nothing, k)) t e is put stands taken f ok again =
    accept_more m k [] r bytes chunk rest out later last e is (λ rs. ap (λ x. put_at x (λ y. put_for_requests y rs)) t) (f ∙ ap (λ y. y ++ later) put) (again k (subst (λ y. TakesAll y rest later last) stands taken))
turned m r n bytes chunk rest now later out next last (Some (Line text, k)) t e is put stands taken f ok again =
    accept_more m k (text ++ 10 ∷ []) r bytes chunk rest out later last e is (λ rs. ap (λ x. put_at x (λ y. put_for_requests y rs)) t ∙ sym (append_assoc text (10 ∷ []) (put_for_requests k rs))) (f ∙ ap (λ y. y ++ later) put)
    (again k (subst (λ y. TakesAll y rest later last) stands taken))
turned m r n bytes chunk rest now later out next last (Some (Model text, k)) t e is put stands taken f ok again =
    accept_more m k text r bytes chunk rest out later last e is (λ rs. ap (λ x. put_at x (λ y. put_for_requests y rs)) t) (f ∙ ap (λ y. y ++ later) (put ∙ append-nil text)) (again k (subst (λ y. TakesAll y rest later last) stands taken))
turned m r n bytes chunk rest now later out next last (Some (Ended, k)) t e is put stands taken f ok again =
    let p = silent_exited rest later last (subst (λ y. TakesAll y rest later last) stands taken) in
    accept_exit m k r bytes chunk rest out last e is t (f ∙ ap₂ (λ (y z : List ℕ). y ++ z) put p.0) p.1

-- a command that was reached is a request
answered : (m : Machine) (n : ℕ) (bytes out : List ℕ) (p : List ℕ × List ℕ) (last : Standing) → first_command outside bytes ≡ Some p → Reaches (course_at m n) p out last → status_at last ≡ 0
    → ((k : Machine) (t : ℕ) (later : List ℕ) → TakesAll (Waiting (course_at k t)) p.1 later last → IsAccepted k p.1 later last) → IsAccepted m bytes out last
answered m n bytes out p last found ((now, later, next, is, taken, e), calm) ok again = by is
  where
    d : Course
    d = with_bytes (course_at m n) p.0

    odd : d.odd ≡ any_odd outside p.0
    odd = odd_is p.0 (course_at m n)

    by : IsAnswered d now next → IsAccepted m bytes out last
    by (inl (none, put, stops)) = absurd (not_stopped last (silent_stopped p.1 later last (subst (λ y. TakesAll y p.1 later last) stops taken)).1 ok)
    by (inr (x, r, put, stands)) =
        let k = cuts p.0 calm (alone outside bytes p found) in
        let request : IsRequest p.0 (record { expression = x; odd = d.odd }) = record {
          blank = k.blank;
          command = kept outside p.0;
          whole = k.whole;
          is_blank = k.is_blank;
          reads = subst (λ t. IsReadWithin t most_open x) (held_is p.0 (course_at m n)) r;
          odd_is = odd;
        } in
        let same : turn (asked d.odd d.machine) x ≡ turn (asked d.odd m) x = ap (λ y. turn (asked d.odd y) x) (machine_stays p.0 (course_at m n)) in
        let there : next ≡ behind_turn outside d.total (turn (asked d.odd m) x) =
        stands ∙ ap (behind_turn d.scan d.total) same ∙ ap (λ s. behind_turn s d.total (turn (asked d.odd m) x)) (scan_goes_on p.0 (course_at m n) ∙ ends_outside outside bytes p found) in
        turned m (record { expression = x; odd = d.odd }) d.total bytes p.0 p.1 now later out next last (turn (asked d.odd m) x) refl (joins outside bytes p found) request (put ∙ ap (λ t. put_at t (λ y. [])) same) there taken e ok (λ y. again y d.total later)

none_cut : (p : List ℕ × List ℕ) → first_command outside p.0 ≡ Some (p.0, []) → 0 < length p.0
none_cut ([], rest) h = absurd cc
none_cut (b ∷ bs, rest) h = omega arith

shorter : (bytes : List ℕ) (p : List ℕ × List ℕ) → first_command outside bytes ≡ Some p → length p.1 < length bytes
shorter bytes p h =
    let some = none_cut p (alone outside bytes p h) in
    omega (arith, some, ap length (joins outside bytes p h), length-append p.0 p.1)

closed_end : (c : Course) → status_at (Waiting c) ≡ 0 → c.scan.depth ≡ 0
closed_end c h = elim (cases_Bool (eqb c.scan.depth 0)) [
  | inl e ↦ eqb-true c.scan.depth 0 e
  | inr e ↦ (let three : status_at (Waiting c) ≡ 3 = cond-false (eqb c.scan.depth 0) 0 3 e in absurd (omega (arith, three, h)))
]

accepted_none : (m : Machine) (n : ℕ) (bytes out : List ℕ) (last : Standing) → first_command outside bytes ≡ None → Breaks out last ⊎ Waits (course_at m n) bytes out last → status_at last ≡ 0 → IsAccepted m bytes out last
accepted_none m n bytes out last none (inl (stop, put, stops)) ok = absurd (not_stopped last stops ok)
accepted_none m n bytes out last none (inr (silent, waits, calm)) ok =
    let closed = closed_end (with_bytes (course_at m n) bytes) (ap status_at (sym waits) ∙ ok) in
    accept_none m bytes out last silent (blank_end bytes calm none (ap (λ (s : Scan). s.depth) (sym (scan_goes_on bytes (course_at m n))) ∙ closed))

accepted_some : (m : Machine) (n : ℕ) (bytes out : List ℕ) (p : List ℕ × List ℕ) (last : Standing) → first_command outside bytes ≡ Some p → Breaks out last ⊎ Reaches (course_at m n) p out last → status_at last ≡ 0
    → ((k : Machine) (t : ℕ) (later : List ℕ) → TakesAll (Waiting (course_at k t)) p.1 later last → IsAccepted k p.1 later last) → IsAccepted m bytes out last
accepted_some m n bytes out p last found (inl (stop, put, stops)) ok again = absurd (not_stopped last stops ok)
accepted_some m n bytes out p last found (inr reaches) ok again = answered m n bytes out p last found reaches ok again

-- by how many bytes there are at most
accepted_by : (most : ℕ) (bytes : List ℕ) → length bytes ≤ most → (m : Machine) (n : ℕ) (out : List ℕ) (last : Standing) → TakesAll (Waiting (course_at m n)) bytes out last → status_at last ≡ 0 → IsAccepted m bytes out last
accepted_by zero bytes few m n out last t ok = by (first_command outside bytes) refl
  where
    by : (o : Cut) → first_command outside bytes ≡ o → IsAccepted m bytes out last
    by None e = accepted_none m n bytes out last e (within_one bytes (course_at m n) out last e t) ok
    by (Some p) e = absurd (omega (arith, few, shorter bytes p e))
accepted_by (suc most) bytes few m n out last t ok = by (first_command outside bytes) refl (accepted_by most)
  where
    by : (o : Cut) → first_command outside bytes ≡ o
        → ((rest : List ℕ) → length rest ≤ most → (k : Machine) (j : ℕ) (later : List ℕ) (end : Standing) → TakesAll (Waiting (course_at k j)) rest later end → status_at end ≡ 0 → IsAccepted k rest later end) → IsAccepted m bytes out last
    by None e again = accepted_none m n bytes out last e (within_one bytes (course_at m n) out last e t) ok
    by (Some p) e again =
        let less : length p.1 ≤ most = omega (arith, few, shorter bytes p e) in
        accepted_some m n bytes out p last e (up_to_end bytes (course_at m n) p out last e t) ok (λ k j later u. again p.1 less k j later last u ok)

pub accepted : (m : Machine) (n : ℕ) (bytes out : List ℕ) (last : Standing) → TakesAll (Waiting (course_at m n)) bytes out last → status_at last ≡ 0 → IsAccepted m bytes out last
accepted m n bytes out last t ok = accepted_by (length bytes) bytes (omega arith) m n out last t ok
