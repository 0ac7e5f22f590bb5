-- The bytes in turn print what the lines in turn print: for an input of fewer than 2^64 - 2 bytes, what the run prints is its transcript.
-- Assumes nothing.
use Rattle.std.specs.Prelude.{Option, None}
use Prim.Native.Nat.{ℕ, suc, ◌+◌, ◌<◌, ◌≤◌}
use native.Mathlib.Numerals.{add-one}
use native.Mathlib.Omega.{arith}
use mathlib.Core.Path.{◌≡◌, refl, sym, ap, ◌∙◌}
use mathlib.Core.Bool.{Bool, true, false, cond}
use mathlib.Core.List.{List, [], ◌∷◌, ◌++◌, append-nil}
use lib.Dec.{ltb, eqb}
use lib.ListN.{length, take, length-append}
use lib.Seq.{take_all, take-append-le, length-take-le}
use borrow.Author.Tests.{lt-ltb, ltb-true, ltb-false}
use Rattle.lists.proofs.Bools.{cases}
use Rattle.lines.proofs.LongLines.{cut}
use Rattle.lastlines.specs.Lastcheck.{After, step_of, transcript_from, unended, lines_from, transcript, unfilled}
use Rattle.table.specs.declared.Settings.{Settings}
use Rattle.table.specs.Table.{Table}
use Rattle.lastcheck.specs.Run.{state, beginning, counted, kept_with, step_byte, text_byte, last_text, text_from}

-- a run that has ended prints nothing
silent : (l : List ℕ) (n : ℕ) (s : Option Settings) (t : Table) (bytes : List ℕ) → text_from 38 (state l n s t false) bytes ≡ []
unfolding text_from last_text text_byte step_byte
silent l n s t [] = refl
silent l n s t (byte ∷ bytes) = silent l n s t bytes

-- 38 bytes of a line do what the whole line does
same_step : (l : List ℕ) (n : ℕ) (s : Option Settings) (t : Table) → step_of (take 38 l) n s t ≡ step_of l n s t
unfolding step_of
same_step l n s t = rw (cut l)

-- the first 38 bytes of a line that grows
grown : (l : List ℕ) (byte : ℕ) → kept_with 38 (take 38 l) byte ≡ take 38 (l ++ (byte ∷ []))
grown l byte =
    cases (λ (b : Bool). kept_with 38 (take 38 l) byte ≡ take 38 (l ++ (byte ∷ []))) (ltb (length l) 38)
    (λ e.
    let h : length l < 38 = ltb-true (length l) 38 e in
    let k : length (l ++ (byte ∷ [])) ≤ 38 = simp length-append (omega arith) in
    let m : take 38 l ≡ l = take_all 38 l (omega arith) in
    rw (m, e, take_all 38 (l ++ (byte ∷ [])) k))
    (λ e.
    let h : 38 ≤ length l = ltb-false (length l) 38 e in
    let k : length (take 38 l) ≡ 38 = length-take-le 38 l h in
    rw (k, take-append-le 38 l (byte ∷ []) h))

-- the next line's number
next : (n : ℕ) → n < 18446744073709551615 → counted n ≡ suc n
next n h = rw (lt-ltb n 18446744073709551615 h, add-one n)

-- a run that goes on or has ended
going : (g : Bool) (n : ℕ) (s : Option Settings) (t : Table) (bytes rest : List ℕ)
    → text_from 38 (state [] n s t true) bytes ≡ rest
    → text_from 38 (state [] n s t g) bytes ≡ cond g rest []
going true n s t bytes rest e = e
going false n s t bytes rest e = silent [] n s t bytes

-- the last line
one_line : (l : List ℕ) (n : ℕ) (s : Option Settings) (t : Table) → transcript_from n s t (l ∷ []) ≡ (step_of l n s t).text
unfolding transcript_from
one_line l n s t =
    let a = step_of l n s t in
    cases (λ (b : Bool). a.text ++ cond b [] [] ≡ a.text) a.goes (λ e. append-nil a.text) (λ e. append-nil a.text)

last_line : (l : List ℕ) (n : ℕ) (s : Option Settings) (t : Table)
    → last_text (state (take 38 l) n s t true) ≡ transcript_from n s t (unended l)
unfolding last_text unended transcript_from
last_line [] n s t = refl
last_line (x ∷ xs) n s t =
    let h : 0 < length (take 38 (x ∷ xs)) = omega arith in
    rw (lt-ltb 0 (length (take 38 (x ∷ xs))) h) (ap (λ (a : After). a.text) (same_step (x ∷ xs) n s t) ∙ sym (one_line (x ∷ xs) n s t))

module _ (l : List ℕ) (byte : ℕ) (bytes : List ℕ) (n : ℕ) (s : Option Settings) (t : Table) where
  -- a newline
  after_newline : eqb byte 10 ≡ true → n < 18446744073709551615 →
      ((s' : Option Settings) (t' : Table)
      → text_from 38 (state [] (suc n) s' t' true) bytes ≡ transcript_from (suc n) s' t' (lines_from [] bytes))
      →
      text_from 38 (state (take 38 l) n s t true) (byte ∷ bytes) ≡ transcript_from n s t (lines_from l (byte ∷ bytes))
  unfolding text_from text_byte step_byte lines_from transcript_from
  after_newline e h rest =
      let a = step_of l n s t in
      rw (e, same_step l n s t, next n h)
      (ap (λ (r : List ℕ). a.text ++ r) (going a.goes (suc n) a.settings a.left bytes _ (rest a.settings a.left)))

  -- any other byte
  after_other : eqb byte 10 ≡ false
      → text_from 38 (state (take 38 (l ++ (byte ∷ []))) n s t true) bytes
      ≡ transcript_from n s t (lines_from (l ++ (byte ∷ [])) bytes)
      →
      text_from 38 (state (take 38 l) n s t true) (byte ∷ bytes) ≡ transcript_from n s t (lines_from l (byte ∷ bytes))
  unfolding text_from text_byte step_byte lines_from
  after_other e rest = rw (e, grown l byte) rest

-- from any place of a line on
streamed : (l bytes : List ℕ) (n : ℕ) (s : Option Settings) (t : Table)
    → n + length bytes < 18446744073709551615
    → text_from 38 (state (take 38 l) n s t true) bytes ≡ transcript_from n s t (lines_from l bytes)
unfolding text_from lines_from
streamed l [] n s t h = last_line l n s t
streamed l (byte ∷ bytes) n s t h =
    cases (λ (b : Bool).
    text_from 38 (state (take 38 l) n s t true) (byte ∷ bytes)
    ≡ transcript_from n s t (lines_from l (byte ∷ bytes))) (eqb byte 10)
    (λ e. after_newline l byte bytes n s t e (omega arith) (λ s' t'. streamed [] bytes (suc n) s' t' (omega arith)))
    (λ e. after_other l byte bytes n s t e (streamed (l ++ (byte ∷ [])) bytes n s t (omega arith)))

-- what the bytes of an input print in turn, and its end, is the transcript of its lines
pub printed : (input : List ℕ) → length input < 18446744073709551614 → text_from 38 beginning input ≡ transcript input
unfolding transcript
printed input h = streamed [] input 1 None unfilled (omega arith)
