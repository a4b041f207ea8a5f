-- Reading and writing undo each other.
use Rattle.std.proofs.Common.{◌≡◌, ℕ, ◌<◌, ◌≤◌, ◌&&◌, leb, List, ◌++◌, length, take, drop, Some, None, Ok, Err, Option, Result, sym, ap, ◌∙◌, subst, ⊎_elim, arith, take-append-drop}
use Rattle.std.specs.Prelude.{MatchResult, IsTrue, ◌↔◌}
use Rattle.std.proofs.lemmas.List.{get_or-take, get_or_past, length-take}
use Rattle.std.proofs.lemmas.Bool.{le-leb, leb-true, and_parts, cases_lt}
use Rattle.draft.specs.declared.fault.Fault.{Fault}
use Rattle.draft.specs.declared.refusal.Refusal.TheVariants.{Memory}
use Rattle.layout.specs.declared.rows.BarRow.{BarRow}
use Rattle.layout.specs.declared.rows.ChoiceRow.{ChoiceRow}
use Rattle.layout.specs.declared.rows.Counts.{Counts}
use Rattle.layout.specs.declared.rows.CourseRow.{CourseRow}
use Rattle.bits.specs.Bits.{Bytes}
use Rattle.layout.specs.Faults.{unless}
use Rattle.layout.specs.Layout.{IsSheet, bytes_of}
use Rattle.layout.proofs.FirstLaws.{first_none, first_both, unless_none, unless_holds}
use Rattle.layout.proofs.UniqueLaws.{one_sheet, one_reading}
use Rattle.reader.specs.Decoded.{course_count, label, bar_count}
use Rattle.reader.specs.Reading.{Filled, Reading}
use Rattle.reader.specs.Verdict.{verdict, read_fault}
use Rattle.reader.proofs.AcceptLaws.{sheet_clean}
use Rattle.reader.proofs.CleanLaws.{clean_sheet}
use Rattle.writer.specs.RowFaults.{rows_fault, write_fault}
use Rattle.writer.specs.Writing.{Writing, Wrote}
use Rattle.writer.proofs.RowLaws.{rows_lawful, lawful_rows}
use Rattle.sheet.specs.Exactly.{ReadsSheets, WritesLawful}
use Rattle.sheet.specs.Rechecking.{recheck_fault, Rechecking}
use Rattle.sheet.specs.declared.checked.Checked.{Checked}
use Rattle.sheet.specs.RoundTrip.{ReadsBack, WritesBack}

none_some : {X : Type 0} (o : Option X) (x : X) → o ≡ None → o ≡ Some x → ⊥
none_some o x a b = let z : ◌≡◌ {A = ℕ} 0 1 = cc in omega arith

-- the sheet of lawful rows is read into lists that are long enough
room_to_read : (s : List ℕ) (cs : List CourseRow) (hs : List ChoiceRow) (bs : List BarRow) → IsSheet s cs hs bs → (lc lh lb : ℕ) → length cs ≤ lc → length hs ≤ lh → length bs ≤ lb → read_fault s lc lh lb ≡ None
room_to_read s cs hs bs h lc lh lb a b d =
    let clean = sheet_clean s cs hs bs h in
    let n = ap (λ (c : Counts). c.courses) clean.1 in
    let t = ap (λ (c : Counts). c.choices) clean.1 in
    let m = ap (λ (c : Counts). c.bars) clean.1 in
    rw (clean.0, le-leb (course_count s) lc (omega arith), le-leb (label s (course_count s)) lh (omega arith), le-leb (bar_count s) lb (omega arith))

pub reads_back : ReadsBack
reads_back cs hs bs s t n w xs xs' ys ys' zs zs' (Ok m) r a b d =
    let clean = sheet_clean (take n t) cs hs bs w.sheet in
    let is : m ≡ record { courses = length cs; choices = length hs; bars = length bs } = r.answer ∙ clean.1 in
    let back = one_reading (take n t) _ cs _ hs _ bs r.sheet w.sheet in
    let cm = ap (λ (c : Counts). c.courses) is in
    let hm = ap (λ (c : Counts). c.choices) is in
    let bm = ap (λ (c : Counts). c.bars) is in (
      ap (λ (c : Counts). Ok c) is,
      ap (λ (k : ℕ). take k xs') (sym cm) ∙ back.0,
      ap (λ (k : ℕ). take k ys') (sym hm) ∙ back.1,
      ap (λ (k : ℕ). take k zs') (sym bm) ∙ back.2,
    )
reads_back cs hs bs s t n w xs xs' ys ys' zs zs' (Err f) r a b d =
    absurd (none_some _ f (room_to_read (take n t) cs hs bs w.sheet (length xs) (length ys) (length zs) a b d) r.fault)

bytes_take : (n : ℕ) (s : List ℕ) → Bytes s → Bytes (take n s)
bytes_take n s h k =
    ⊎_elim
    (λ l. subst (λ (x : ℕ). x < 256) (sym (get_or-take n s k 0 l)) (h k))
    (λ l. subst (λ (x : ℕ). x < 256) (sym (get_or_past (take n s) k 0 (omega (arith, length-take n s)))) (omega arith))
    (cases_lt k n)

module _ (s : List ℕ) (cs : List CourseRow) (hs : List ChoiceRow) (bs : List BarRow) (sheet : IsSheet s cs hs bs) (t u : List ℕ) (room : length s ≤ length t) where
  -- the rows of a sheet are written into bytes that are enough
  pub room_to_write : (f : Fault) → Writing cs hs bs t u (Err f) → ⊥
  room_to_write f w =
      let none : write_fault cs hs bs (length t) ≡ None =
      first_both (rows_fault cs hs bs) _ (lawful_rows cs hs bs sheet.lawful) (unless_holds _ Memory 0 (le-leb (bytes_of cs hs bs) (length t) (subst (λ (k : ℕ). k ≤ length t) sheet.long room))) in
      none_some _ f none w.0

  pub long_enough : (m : ℕ) → Writing cs hs bs t u (Ok m) → m ≡ length s
  long_enough m w = w.answer ∙ sym sheet.long

  -- the sheet written again stands in the front of the bytes
  pub written_again : (m : ℕ) → Writing cs hs bs t u (Ok m) → Bytes s → Bytes u → (m ≡ length s) × (take m u ≡ s) × (u ≡ s ++ drop (length s) t)
  written_again m w bytes bu =
      let long = long_enough m w in
      let front : take m u ≡ s = one_sheet (take m u) s cs hs bs (bytes_take m u bu) bytes w.sheet sheet in
      let back : drop m u ≡ drop (length s) t = w.rest ∙ ap (λ (k : ℕ). drop k t) long in
      (long, front, sym (take-append-drop m u) ∙ (λ i. front i ++ back i))

pub writes_back : WritesBack
writes_back s xs xs' ys ys' zs zs' n r t u (Ok m) w bs bu room =
    let again = written_again s _ _ _ r.sheet t u room m w bs bu in
    (ap (λ (k : ℕ). Ok k) again.0, ap (λ (k : ℕ). take k u) (sym again.0) ∙ again.1)
writes_back s xs xs' ys ys' zs zs' n r t u (Err f) w bs bu room = absurd (room_to_write s _ _ _ r.sheet t u room f w)

-- a sheet that is read has room in the lists
pub filled_room : (s : List ℕ) (xs xs' : List CourseRow) (ys ys' : List ChoiceRow) (zs zs' : List BarRow) (n : Counts) → Reading s xs xs' ys ys' zs zs' (Ok n) → (n.courses ≤ length xs) × (n.choices ≤ length ys) × (n.bars ≤ length zs)
filled_room s xs xs' ys ys' zs zs' n r =
    let a = first_none (verdict s) (unless (leb (course_count s) (length xs) && (leb (label s (course_count s)) (length ys) && leb (bar_count s) (length zs))) Memory 0) r.clean in
    let b = and_parts (leb (course_count s) (length xs)) (leb (label s (course_count s)) (length ys) && leb (bar_count s) (length zs)) (unless_none _ _ _ a.1) in
    let d = and_parts (leb (label s (course_count s)) (length ys)) (leb (bar_count s) (length zs)) b.1 in
    let c = ap (λ (k : Counts). k.courses) r.answer in
    let h = ap (λ (k : Counts). k.choices) r.answer in
    let m = ap (λ (k : Counts). k.bars) r.answer in
    (omega (arith, leb-true _ _ b.0), omega (arith, leb-true _ _ d.0), omega (arith, leb-true _ _ d.1))

pub no_fault : (s : List ℕ) (lc lh lb lo : ℕ) → length s ≤ lo → read_fault s lc lh lb ≡ None → recheck_fault s lc lh lb lo ≡ None
no_fault s lc lh lb lo room e = first_both (read_fault s lc lh lb) _ e (unless_holds _ Memory 0 (le-leb (length s) lo room))

-- what was read and written again agrees
pub agrees : (s : List ℕ) (xs xs' : List CourseRow) (ys ys' : List ChoiceRow) (zs zs' : List BarRow) (t u : List ℕ) (n : Counts) → Reading s xs xs' ys ys' zs zs' (Ok n) → Bytes s → Bytes u → length s ≤ length t
    → (r : Result Checked Fault) → MatchResult r (λ k. Wrote (take n.courses xs') (take n.choices ys') (take n.bars zs') t u k.bytes) (λ _. ⊥)
    → MatchResult r (λ k. IsTrue k.same ↔ (take k.bytes u ≡ s)) (λ _. ⊥) → MatchResult r (λ k. k.counts ≡ n) (λ _. ⊥)
    → Rechecking s xs xs' ys ys' zs zs' t u r
agrees s xs xs' ys ys' zs zs' t u n read bs bu room (Ok k) wrote compared counted =
    let again = written_again s _ _ _ read.sheet t u room k.bytes wrote bs bu in
    record {
      clean = no_fault s (length xs) (length ys) (length zs) (length t) room read.clean;
      rows = subst (λ m. Filled s xs xs' ys ys' zs zs' m) (sym counted) read;
      bytes = again.0;
      same = compared.1 again.1;
      written = again.2;
    }
agrees s xs xs' ys ys' zs zs' t u n read bs bu room (Err f) wrote compared counted = absurd wrote

-- what is accepted
pub reads_sheets : ReadsSheets
reads_sheets s = (λ clean. (_, (_, (_, clean_sheet s clean))), λ h. (sheet_clean s h.0 h.1.0 h.1.1.0 h.1.1.1).0)

pub writes_lawful : WritesLawful
writes_lawful cs hs bs = (rows_lawful cs hs bs, lawful_rows cs hs bs)
