-- What the calls of a link in memory do, over plain values.
use Rattle.std.proofs.Common.{◌≡◌, ◌≤◌, ℕ, ◌+◌, Bool, true, false, List, [], ◌++◌, take, drop, Some, Ok, Err, refl, sym, ap, ◌∙◌, append-nil, subst, arith}
use Rattle.std.proofs.lemmas.List.{take-append-drop, drop-drop, drop-take, take-take}
use Rattle.smt_solve.specs.Link.{HandsOn, Sends, ReadsLine, EndsAs}
use Rattle.smt_solve.specs.MemoryLink.{memory_state, memory_allows, bytes_left, counts_call}
use Rattle.smt_solve.proofs.LinkLemmas.{same_end, no_part}
use Rattle.smt_solve.specs.declared.memory.MemoryLink.{MemoryLink}
use Rattle.smt_solve.specs.declared.link.LineEnd.{LineEnd}
use Rattle.smt_solve.specs.declared.link.LinkError.TheVariants.{Fault, Memory}

pub fails_flush : (s t : MemoryLink) (b : Bool) → b ≡ true → t ≡ counts_call s b → s.faults ≤ t.faults → HandsOn {T = Unit {0}} (memory_state s) (memory_state t) (Err Fault)
fails_flush s t b e f l = rw (f, e) (record {
  same_sent = refl;
  same_read = refl;
  same_to_come = refl;
  same_killed = refl;
  end = same_end (Some s.end);
  counts = record { later = rw (f, e) at l; no_fault = tt; cause = λ _. omega arith };
})

pub fails_send : (s t : MemoryLink) (b : Bool) (bytes : List ℕ) → b ≡ true → t ≡ counts_call s b → s.faults ≤ t.faults → Sends {T = Unit {0}} (memory_state s) (memory_state t) bytes (Err Fault)
fails_send s t b bytes e f l = rw (f, e) (record {
  ok = tt;
  err = no_part (Some s.sent.items) bytes;
  same_read = refl;
  told = refl;
  closed = λ over. over.to_come;
  same_killed = refl;
  end = same_end (Some s.end);
  counts = record { later = rw (f, e) at l; no_fault = tt; cause = λ _. omega arith };
})

pub fails_read : (s t : MemoryLink) (b : Bool) (line : List ℕ) (limit : ℕ) → b ≡ true → t ≡ counts_call s b → s.faults ≤ t.faults
    → ReadsLine (memory_allows s) (memory_state s) (memory_state t) line line limit (Err Fault)
fails_read s t b line limit e f l = rw (f, e) (record {
  piece = [];
  appended = sym (append-nil line);
  came = refl;
  was_read = ap Some (sym (append-nil (take s.at s.answers.items)));
  ending = tt;
  allowed = tt;
  same_sent = refl;
  same_killed = refl;
  end = same_end (Some s.end);
  counts = record { later = rw (f, e) at l; no_fault = tt; cause = λ _. omega arith };
})

-- There is no memory for the line.
pub lacks_memory : (s t : MemoryLink) (b : Bool) (before after : List ℕ) (limit : ℕ) → b ≡ false → t ≡ counts_call s b → after ≡ before
    → ReadsLine (memory_allows s) (memory_state s) (memory_state t) before after limit (Err Memory)
lacks_memory s t b before after limit e f g = rw (f, e) (record {
  piece = [];
  appended = g ∙ sym (append-nil before);
  came = refl;
  was_read = ap Some (sym (append-nil (take s.at s.answers.items)));
  ending = tt;
  allowed = tt;
  same_sent = refl;
  same_killed = refl;
  end = same_end (Some s.end);
  counts = record { later = omega arith; no_fault = tt; cause = λ h. absurd (cc) };
})

taken_on : (at n : ℕ) (xs : List ℕ) → take (at + n) xs ≡ take at xs ++ take n (drop at xs)
taken_on at n xs =
    let e : take at (take (at + n) xs) ++ drop at (take (at + n) xs) ≡ take (at + n) xs = take-append-drop at (take (at + n) xs) in
    let l : at ≤ at + n = omega arith in
    sym (rw (take-take at (at + n) xs l, drop-take at n xs) at e)

came_on : (at n : ℕ) (xs : List ℕ) → drop at xs ≡ take n (drop at xs) ++ drop (at + n) xs
came_on at n xs = rw (← drop-drop) (sym (take-append-drop n (drop at xs)))

next_given : (s : MemoryLink) (left before after : List ℕ) (n limit : ℕ) (how : LineEnd)
    → left ≡ bytes_left s → EndsAs how (take n left) limit (Some (drop n left)) → after ≡ before ++ take n left
    → ReadsLine (memory_allows s) (memory_state s)
    (record { sent = Some s.sent.items; was_read = Some (take (s.at + n) s.answers.items); to_come = Some (drop (s.at + n) s.answers.items); ended = Some s.end; killed = Some s.killed; faults = s.faults })
    before after limit (Ok how)
next_given s left before after n limit how g h k =
    let P : List ℕ → Type 0 = λ t. EndsAs how (take n t) limit (Some (drop n t)) in
    record {
      piece = take n (bytes_left s);
      appended = rw (← g) k;
      came = ap Some (came_on s.at n s.answers.items);
      was_read = ap Some (taken_on s.at n s.answers.items);
      ending = rw (← drop-drop n s.at s.answers.items) (subst P g h);
      allowed = λ _. tt;
      same_sent = refl;
      same_killed = refl;
      end = same_end (Some s.end);
      counts = record { later = omega arith; no_fault = refl; cause = λ h. absurd (cc) };
    }

-- The next line is given.
pub gives_line : (s t : MemoryLink) (b : Bool) (left before after : List ℕ) (n limit : ℕ) (how : LineEnd) → b ≡ false → t ≡ counts_call s b
    → left ≡ bytes_left t → EndsAs how (take n left) limit (Some (drop n left)) → after ≡ before ++ take n left
    → ReadsLine (memory_allows s) (memory_state s)
    (record { sent = Some t.sent.items; was_read = Some (take (t.at + n) t.answers.items); to_come = Some (drop (t.at + n) t.answers.items); ended = Some t.end; killed = Some t.killed; faults = t.faults })
    before after limit (Ok how)
gives_line s t b left before after n limit how e f g h k =
    let same = g ∙ ap (λ (m : MemoryLink). bytes_left m) f in
    rw (f, e) (next_given s left before after n limit how same h k)
