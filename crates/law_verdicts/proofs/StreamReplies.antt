-- What a stream puts for a text of commands is what the machine replies to them.
use Rattle.std.proofs.Common.{◌≡◌, ◌⊎◌, ℕ, true, false, List, [], ◌∷◌, ◌++◌, map, refl, sym, ap, ap₂, ◌∙◌, subst, inl, inr, append_assoc, Option, Some, None}
use Rattle.std.specs.Prelude.{codes}
use Rattle.std.proofs.lemmas.List.{append-nil}
use Rattle.std.proofs.lemmas.List.Elements.{All-from_recursion}
use Rattle.law_texts.specs.Reading.{Expression, Reads}
use Rattle.law_texts.specs.Tokens.{IsReadWithin}
use Rattle.law_texts.proofs.Trees.{one_reading}
use Rattle.law_scripts.specs.Script.{Command, Holds, stated}
use Rattle.smt_solve.specs.Link.{HasNoLineFeed}
use Rattle.law_verdicts.specs.Honest.{MayPut, PutsAt, Stops}
use Rattle.law_verdicts.specs.Machine.{Ended, Line, Machine, Model, Nothing, Reply, new, put_at, put_for, refusal_line, turn}
use Rattle.law_verdicts.specs.Scan.{Between, Scan, at_depth, first_command}
use Rattle.law_verdicts.specs.Streams.{Course, IsAnswered, NotScript, Standing, Stop, Stopped, StreamsReply, TakesAll, TooDeep, TooLong, Waiting, any_odd, asked, behind_turn, course_at, first_course, most_open, stop_line}
use Rattle.law_verdicts.proofs.Bytes.{free, is_free}
use Rattle.law_verdicts.proofs.Scan.{chunks_are_scanned}
use Rattle.law_verdicts.proofs.StreamHonest.{heard_is_honest, stream_lines}
use Rattle.law_verdicts.proofs.StreamPieces.{Cuts, blank_has_none, cut_first, none_is_odd, reads_held}
use Rattle.law_verdicts.proofs.StreamRequests.{accepted}
use Rattle.law_verdicts.proofs.Streams.{Answers, Breaks, Reaches, Waits, ends_outside, held_is, kept, machine_stays, odd_is, scan_goes_on, scanned_all, silent_exited, silent_stopped, up_to_end, with_bytes, within_one}

-- Such bytes may be put, and where no error was put they are all replies.
abbrev Replies : Machine → List Expression → List ℕ → Standing → Type 0
Replies m es out last = MayPut m es out × ((last ≡ Stopped → ⊥) → out ≡ put_for m es)

all_free : (bytes : List ℕ) → is_free bytes ≡ true → HasNoLineFeed bytes
all_free bytes h = All-from_recursion (λ b. b ≡ 10 → ⊥) bytes (free bytes h)

error_stops : (stop : Stop) → Stops (stop_line stop)
error_stops NotScript = inr (codes "not a script", all_free (codes "not a script") refl, refl)
error_stops TooLong = inr (codes "too long", all_free (codes "too long") refl, refl)
error_stops TooDeep = inr (codes "too deep", all_free (codes "too deep") refl, refl)

anywhere : (m : Machine) (es : List Expression) (out : List ℕ) → Stops out → MayPut m es out
anywhere m [] out h = h
anywhere m (e ∷ es) out h = inl h

broken : (m : Machine) (es : List Expression) (out : List ℕ) (last : Standing) → Breaks out last → Replies m es out last
broken m es out last (stop, put, stops) = (anywhere m es out (subst Stops (sym put) (error_stops stop)), λ still. absurd (still stops))

-- ---- the course behind a chunk

-- behind a turn, at a known place
behind : (s t : Scan) (n : ℕ) (x : Option (Reply × Machine)) → s ≡ t → behind_turn s n x ≡ behind_turn t n x
behind s t n x e = ap (λ z. behind_turn z n x) e

-- What is put at a turn and behind it, where what is put behind it is right.
turned : (x : Option (Reply × Machine)) (es : List Expression) (n : ℕ) (rest later out : List ℕ) (last : Standing) → out ≡ put_at x (λ m. []) ++ later → TakesAll (behind_turn (at_depth 0 Between) n x) rest later last
    → ((next : Machine) → TakesAll (Waiting (course_at next n)) rest later last → Replies next es later last)
    → PutsAt x (λ next behind. MayPut next es behind) out × ((last ≡ Stopped → ⊥) → out ≡ put_at x (λ next. put_for next es))
turned None es n rest later out last e t again =
    let p = silent_stopped rest later last t in
    let k = e ∙ ap (λ y. refusal_line ++ y) p.0 ∙ append-nil refusal_line in
    (k, λ still. absurd (still p.1))
turned (Some (Nothing, next)) es n rest later out last e t again =
    let p = again next t in
    (subst (MayPut next es) (sym e) p.0, λ still. e ∙ p.1 still)
turned (Some (Line text, next)) es n rest later out last e t again =
    let p = again next t in
    let k = e ∙ append_assoc text (10 ∷ []) later in
    ((later, k, p.0), λ still. k ∙ ap (λ y. text ++ 10 ∷ y) (p.1 still))
turned (Some (Model text, next)) es n rest later out last e t again =
    let p = again next t in
    let k = e ∙ append_assoc text [] later in
    ((later, k, p.0), λ still. k ∙ ap (λ y. text ++ y) (p.1 still))
turned (Some (Ended, next)) es n rest later out last e t again = let p = silent_exited rest later last t in (e ∙ p.0, λ still. e ∙ p.0)

-- a command that was cut off is answered as the machine answers it
answered : (c : Command) (es : List Expression) (m : Machine) (n : ℕ) (chunk rest out : List ℕ) (last : Standing) → Reads (kept (at_depth 0 Between) chunk) (stated c ∷ []) → any_odd (at_depth 0 Between) chunk ≡ false
    → scanned_all (at_depth 0 Between) chunk ≡ at_depth 0 Between → Answers (with_bytes (course_at m n) chunk) rest out last
    → ((next : Machine) (k : ℕ) (later : List ℕ) → TakesAll (Waiting (course_at next k)) rest later last → Replies next es later last) → Replies m (stated c ∷ es) out last
answered c es m n chunk rest out last reads even ends (now, later, next, is, taken, e) again = by is
  where
    d : Course
    d = with_bytes (course_at m n) chunk

    same : (x : Expression) → IsReadWithin d.held most_open x → x ≡ stated c
    same x r = first (one_reading (kept (at_depth 0 Between) chunk) (x ∷ []) (stated c ∷ []) (subst (λ t. Reads t (x ∷ [])) (held_is chunk (course_at m n)) r.reads) reads)
      where
        first : x ∷ [] ≡ stated c ∷ [] → x ≡ stated c
        first h = cc

    machine : asked d.odd d.machine ≡ m
    machine = ap₂ asked (odd_is chunk (course_at m n) ∙ even) (machine_stays chunk (course_at m n))

    by : IsAnswered d now next → Replies m (stated c ∷ es) out last
    by (inl (none, put, stops)) =
        let p = silent_stopped rest later last (subst (λ x. TakesAll x rest later last) stops taken) in
        broken m (stated c ∷ es) out last (NotScript, e ∙ ap₂ (λ (x y : List ℕ). x ++ y) put p.0 ∙ append-nil refusal_line, p.1)
    by (inr (x, r, put, stands)) =
        let turns : turn (asked d.odd d.machine) x ≡ turn m (stated c) = ap₂ turn machine (same x r) in
        let from : out ≡ put_at (turn m (stated c)) (λ k. []) ++ later = e ∙ ap (λ t. t ++ later) (put ∙ ap (λ t. put_at t (λ k. [])) turns) in
        let there : next ≡ behind_turn (at_depth 0 Between) d.total (turn m (stated c)) =
        stands ∙ ap (behind_turn d.scan d.total) turns ∙ behind d.scan (at_depth 0 Between) d.total (turn m (stated c)) (scan_goes_on chunk (course_at m n) ∙ ends) in
        let p = turned (turn m (stated c)) es d.total rest later out last from (subst (λ y. TakesAll y rest later last) there taken) (λ k. again k d.total later) in
        (inr p.0, p.1)

replies : (cs : List Command) (m : Machine) (n : ℕ) (sent out : List ℕ) (last : Standing) → Holds sent cs → TakesAll (Waiting (course_at m n)) sent out last → Replies m (map stated cs) out last
replies [] m n sent out last h t =
    let none = ap (first_command (at_depth 0 Between)) h.reads.cut.spelled ∙ blank_has_none h.reads.pieces h.reads.cut.longest h.reads.tokens_are in
    by (within_one sent (course_at m n) out last none t)
  where
    by : Breaks out last ⊎ Waits (course_at m n) sent out last → Replies m [] out last
    by (inl breaks) = broken m [] out last breaks
    by (inr waits) = (inl waits.0, λ still. waits.0)
replies (c ∷ cs) m n sent out last h t =
    let k = cut_first sent c cs h in
    let found : first_command (at_depth 0 Between) sent ≡ Some (k.chunk, k.rest) = ap (first_command (at_depth 0 Between)) k.whole ∙ chunks_are_scanned k.chunk k.rest c k.is_chunk in
    by k (up_to_end sent (course_at m n) (k.chunk, k.rest) out last found t) (ends_outside (at_depth 0 Between) sent (k.chunk, k.rest) found) (λ next total later. replies cs next total k.rest later last k.holds)
  where
    by : (k : Cuts sent c cs) → Breaks out last ⊎ Reaches (course_at m n) (k.chunk, k.rest) out last → scanned_all (at_depth 0 Between) k.chunk ≡ at_depth 0 Between
        → ((next : Machine) (total : ℕ) (later : List ℕ) → TakesAll (Waiting (course_at next total)) k.rest later last → Replies next (map stated cs) later last) → Replies m (stated c ∷ map stated cs) out last
    by k (inl breaks) ends again = broken m (stated c ∷ map stated cs) out last breaks
    by k (inr reaches) ends again =
        let pieces = k.is_chunk.holds.reads.cut in
        let even = ap (any_odd (at_depth 0 Between)) pieces.spelled ∙ none_is_odd k.is_chunk.holds.reads.pieces 0 pieces.longest k.is_chunk.holds.plain in
        answered c (map stated cs) m n k.chunk k.rest out last (reads_held k.chunk c k.is_chunk) even ends reaches.0 again

pub streams_reply : StreamsReply
streams_reply = record {
  may_be = λ sent out last t commands h. (replies commands new 0 sent out last h t).0;
  honest = heard_is_honest;
  lines = λ sent out last t. stream_lines sent (Waiting first_course) out last t;
  exactly = λ sent out last commands t still h. (replies commands new 0 sent out last h t).1 still;
  accepted = λ sent out last t ok. accepted new 0 sent out last t ok;
}
