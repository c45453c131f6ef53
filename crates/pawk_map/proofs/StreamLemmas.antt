-- A run over a shard, window by window.
use Rattle.std.proofs.Common.{◌≡◌, ◌∙◌, ℕ, zero, suc, ◌+◌, Bool, true, false, List, [], ◌∷◌, ◌++◌, length, Option, Some, None, refl, ap, sym, subst, append_assoc, append-nil, add-zero, arith}
use Rattle.pawk_records.specs.Records.{records_by}
use Rattle.pawk_records.proofs.BlocksLemmas.{no_records}
use Rattle.pawk_input.specs.Input.{Item}
use Rattle.pawk_window.specs.Windows.{Contents, HaveCome, HoldsRecords, HasEnded}
use Rattle.pawk_merge_law.specs.Phases.{Phase}
use Rattle.pawk_merge_law.specs.ChunkedRuns.{all_of}
use Rattle.pawk_pieces.specs.declared.piece.Piece.{Piece}
use Rattle.pawk_pieces.specs.Pieces.{piece_items, piece_records}
use Rattle.pawk_shards.specs.Numbers.{AreSameButNumbers}
use Rattle.pawk_shards.specs.Told.{Tell, kept_records}
use Rattle.pawk_map.specs.Sections.{EndsKept, SaySections}
use Rattle.pawk_map.specs.Runs.{IsApart}
use Rattle.pawk_map.specs.Courses.{WritesApart, course_after}
use Rattle.pawk_map.specs.Maps.{Ground, Goes, GoesUnder, Tells, Adds, IsHeld, ReadsOn, held_items, numbered_in}
use Rattle.pawk_map.specs.declared.apart.Apart.{Apart}
use Rattle.pawk_map.specs.declared.draft.Course.{Course}
use Rattle.pawk_map.specs.declared.draft.Course.TheVariants.{On, Over}
use Rattle.pawk_map.specs.declared.draft.Draft.{Draft}
use Rattle.pawk_map.specs.declared.draft.Held.{Held}
use Rattle.pawk_map.specs.declared.draft.Progress.{Progress}
use Rattle.pawk_map.specs.declared.run.Run.{Run}
use Rattle.pawk_map.specs.declared.stream.Stream.{Stream}
use Rattle.pawk_map.proofs.TellLemmas.{same_refl, same_length, file_length}
use Rattle.pawk_map.proofs.MapLemmas.{goes_none, ends_after}
use Rattle.pawk_map.proofs.FileLemmas.{numbered_append}

-- ---- a piece

was_off : (b : Bool) → course_after b ≡ Over → b ≡ false
was_off true h = absurd cc
was_off false h = refl

tell_no : (p : Phase) (rs : List ℕ) (nr : ℕ) (name other : List ℕ) (cs : List (List Item)) → Tell p rs nr name [] cs → Tell p rs nr other [] cs
tell_no p rs nr name other [] h = tt
tell_no p rs nr name other (c ∷ cs) h = absurd h

module _ (u : Ground) (fits : (u.scalars ≡ length u.phase.globals.scalars) × (u.arrays ≡ length u.phase.globals.arrays)) (old : Progress) (piece : Piece) (x : Apart) (nr : ℕ) (at : nr ≡ u.nr + old.records) (by_rs : piece.rs.now ≡ u.rs) (h : IsApart u.phase nr piece x) where
  -- The sections of a piece, with tables of all scalars and arrays.
  pub piece_says : SaySections u.scalars u.arrays h.sections x.lines.items
  piece_says =
      subst (λ n. SaySections u.scalars n h.sections x.lines.items) (sym fits.1)
      (subst (λ n. SaySections n (length u.phase.globals.arrays) h.sections x.lines.items) (sym fits.0) h.say)

  piece_tells : Tell u.phase u.rs (u.nr + old.records) piece.name.now h.sections h.chunks
  piece_tells =
      subst (λ n. Tell u.phase u.rs n piece.name.now h.sections h.chunks) at
      (subst (λ r. Tell u.phase r nr piece.name.now h.sections h.chunks) by_rs h.tell)

  -- They were written.
  pub piece_told : (a b : Option (List ℕ)) (new : Progress) → GoesUnder u.scalars u.arrays a b old new piece.name.now h.sections x.records →
      Tells u a b old (piece_items piece) (course_after x.is_through) new
  piece_told a b new goes = record {
    sections = goes.front ++ h.sections;
    chunks = h.chunks;
    goes = subst (Goes u.scalars u.arrays a b old new (goes.front ++ h.sections)) h.counted goes.goes;
    tell = goes.leads.tells u.phase u.rs (u.nr + old.records) h.sections h.chunks piece_tells;
    are = h.are;
    stops = λ over.
        let ends : EndsKept u.phase (u.nr + old.records) h.sections h.chunks =
        subst (λ n. EndsKept u.phase n h.sections h.chunks) at (h.stops (was_off x.is_through over)) in
        ends_after u.phase (u.nr + old.records) goes.front h.sections [] h.chunks
        (subst (λ n. EndsKept u.phase n h.sections h.chunks) (sym (add-zero (u.nr + old.records))) ends);
  }

  -- There is no record, and nothing was written.
  pub piece_none : (a : Option (List ℕ)) → x.records ≡ 0 → Tells u a a old (piece_items piece) (course_after x.is_through) old
  piece_none a none =
      let no : h.sections ≡ [] = h.none none in record {
        sections = [];
        chunks = h.chunks;
        goes = subst (Goes u.scalars u.arrays a a old old []) (sym none ∙ h.counted) (goes_none u.scalars u.arrays a old);
        tell = tell_no u.phase u.rs (u.nr + old.records) piece.name.now old.name.items h.chunks
            (subst (λ ss. Tell u.phase u.rs (u.nr + old.records) piece.name.now ss h.chunks) no piece_tells);
        are = h.are;
        stops = λ over. subst (λ ss. EndsKept u.phase (u.nr + old.records) ss h.chunks) no
            (subst (λ n. EndsKept u.phase n h.sections h.chunks) at (h.stops (was_off x.is_through over)));
      }

-- ---- the record that is held back

-- It was told of, and nothing is held back then.
pub held_added : (u : Ground) (a b : Option (List ℕ)) (d : Draft) (c : Course) (new : Progress) → Tells u a b d.progress (held_items u.rs d.held) c new →
    Adds u a b d [] c (record { progress = new; held = None })
held_added u a b d c new h = record {
  told = held_items u.rs d.held;
  unread = [];
  tells = h;
  are = same_refl (held_items u.rs d.held ++ []);
  on = λ on. refl;
  over = λ over. refl;
}

-- Records were told of, and the last one that came with them is held back, or left unread.
module _ (u : Ground) (a b : Option (List ℕ)) (old new : Progress) (name : List ℕ) (fnr : ℕ) (rs : List (List ℕ)) (held : Held) (named : held.name.items ≡ name) (at : held.fnr ≡ fnr + length rs) where
  last_added : AreSameButNumbers (numbered_in name fnr rs ++ (held_items u.rs (Some held) ++ [])) (numbered_in name fnr (rs ++ records_by u.rs held.bytes.items))
  last_added =
      let more = records_by u.rs held.bytes.items in
      subst (λ l. AreSameButNumbers (numbered_in name fnr rs ++ l) (numbered_in name fnr (rs ++ more))) (sym (append-nil (kept_records u.rs held.name.items held.fnr held.bytes.items)))
      (subst (λ n. AreSameButNumbers (numbered_in name fnr rs ++ numbered_in n held.fnr more) (numbered_in name fnr (rs ++ more))) (sym named)
      (subst (λ n. AreSameButNumbers (numbered_in name fnr rs ++ numbered_in name n more) (numbered_in name fnr (rs ++ more))) (sym at)
      (numbered_append name fnr rs more)))

  pub last_held : Tells u a b old (numbered_in name fnr rs) On new →
      Adds u a b (record { progress = old; held = None }) (numbered_in name fnr (rs ++ records_by u.rs held.bytes.items)) On (record { progress = new; held = Some held })
  last_held h = record {
    told = numbered_in name fnr rs;
    unread = [];
    tells = h;
    are = last_added;
    on = λ on. refl;
    over = λ over. absurd cc;
  }

pub last_unread : (u : Ground) (a b : Option (List ℕ)) (old new : Progress) (name : List ℕ) (fnr : ℕ) (rs more : List (List ℕ)) → Tells u a b old (numbered_in name fnr rs) Over new →
    Adds u a b (record { progress = old; held = None }) (numbered_in name fnr (rs ++ more)) Over (record { progress = new; held = None })
last_unread u a b old new name fnr rs more h = record {
  told = numbered_in name fnr rs;
  unread = numbered_in name (fnr + length rs) more;
  tells = h;
  are = numbered_append name fnr rs more;
  on = λ on. absurd cc;
  over = λ over. refl;
}

-- ---- windows

-- The records of a window were added.
pub window_added : (u : Ground) (left now_left taken now_taken : Option (List ℕ)) (name : List ℕ) (old new : Stream) (fnr now_fnr : ℕ) (c : Course) (w : Contents) →
    HaveCome left now_left old.window w → HoldsRecords w → HasEnded now_left w → w.rs ≡ u.rs → new.window.tail ≡ w.tail → new.window.ended ≡ w.ended →
    Adds u taken now_taken old.draft (numbered_in name fnr (records_by u.rs w.whole)) c new.draft → (c ≡ On → now_fnr ≡ fnr + length (records_by u.rs w.whole)) →
    ReadsOn u left now_left taken now_taken name old fnr c new now_fnr
window_added u left now_left taken now_taken name old new fnr now_fnr c w come holds ends by_rs tail_is ended_is adds counted = record {
  read = come.read;
  consumes = come.consumes;
  records = records_by u.rs w.whole;
  adds = adds;
  ended = λ e. let h = ends (sym ended_is ∙ e) in (tail_is ∙ h.0, h.1);
  parts = λ more nothing.
      ap (records_by u.rs) (sym (append_assoc old.window.tail come.read more)) ∙ ap (λ l. records_by u.rs (l ++ more)) come.parts
      ∙ cut w.ended refl more (λ e. nothing (ended_is ∙ e)) ∙ ap (λ l. records_by u.rs w.whole ++ records_by u.rs (l ++ more)) (sym tail_is);
  counted = counted;
}
  where
    cut : (e : Bool) → w.ended ≡ e → (more : List ℕ) → (w.ended ≡ true → more ≡ []) → records_by u.rs ((w.whole ++ w.tail) ++ more) ≡ records_by u.rs w.whole ++ records_by u.rs (w.tail ++ more)
    cut false goes more nothing = subst (λ r. records_by r ((w.whole ++ w.tail) ++ more) ≡ records_by r w.whole ++ records_by r (w.tail ++ more)) by_rs (holds goes more)
    cut true over more nothing =
        let none : w.tail ++ more ≡ [] = ap (λ l. l ++ more) (ends over).0 ∙ nothing over in
        ap (records_by u.rs) (append_assoc w.whole w.tail more ∙ ap (λ l. w.whole ++ l) none ∙ append-nil w.whole)
        ∙ sym (ap (λ l. records_by u.rs w.whole ++ l) (ap (records_by u.rs) none ∙ no_records u.rs) ∙ append-nil (records_by u.rs w.whole))

-- ---- pieces that were written

module _ (u : Ground) (fits : (u.scalars ≡ length u.phase.globals.scalars) × (u.arrays ≡ length u.phase.globals.arrays)) (a b : Option (List ℕ)) (old : Progress) (piece : Piece) (x : Apart) (run : Run) (w : WritesApart a b old piece.name.now x run) (nr : ℕ) (at : nr ≡ u.nr + old.records) (by_rs : piece.rs.now ≡ u.rs) (h : IsApart u.phase nr piece x) where
  pub piece_written : Tells u a b old (piece_items piece) run.course run.progress
  piece_written = subst (λ (c : Course). Tells u a b old (piece_items piece) c run.progress) (sym w.course) (go x.records refl)
    where
      go : (n : ℕ) → x.records ≡ n → Tells u a b old (piece_items piece) (course_after x.is_through) run.progress
      go zero none =
          let k = w.none none in
          subst (λ (s : Progress). Tells u a b old (piece_items piece) (course_after x.is_through) s) (sym k.0)
          (subst (λ (t : Option (List ℕ)). Tells u a t old (piece_items piece) (course_after x.is_through) old) (sym k.1)
          (piece_none u fits old piece x nr at by_rs h a none))
      go (suc n) some =
          piece_told u fits old piece x nr at by_rs h a b run.progress
          (w.some u.scalars u.arrays h.sections (λ none. let bad = sym some ∙ none in absurd cc) (piece_says u fits old piece x nr at by_rs h) h.name)

  pub piece_counted : run.records ≡ length (piece_records piece)
  piece_counted =
      w.records ∙ h.counted ∙ same_length (all_of h.chunks) (piece_items piece) h.are ∙ file_length 0 piece.name.now 0 piece.fnr (piece_records piece)

-- Records were told of, and of the last one that came with them what has to be is held back.
pub piece_last : (u : Ground) (a b : Option (List ℕ)) (old new : Progress) (name : List ℕ) (fnr before : ℕ) (rs : List (List ℕ)) (last : List ℕ) (c : Course) (held : Option Held) →
    before ≡ fnr + length rs → IsHeld c name before last held → Tells u a b old (numbered_in name fnr rs) c new →
    Adds u a b (record { progress = old; held = None }) (numbered_in name fnr (rs ++ records_by u.rs last)) c (record { progress = new; held = held })
piece_last u a b old new name fnr before rs last On held at is h =
    subst (λ l. Adds u a b (record { progress = old; held = None }) (numbered_in name fnr (rs ++ records_by u.rs l)) On (record { progress = new; held = held })) is.4
    (subst (λ (o : Option Held). Adds u a b (record { progress = old; held = None }) (numbered_in name fnr (rs ++ records_by u.rs is.0.bytes.items)) On (record { progress = new; held = o })) (sym is.1)
    (last_held u a b old new name fnr rs is.0 is.2 (is.3 ∙ at) h))
piece_last u a b old new name fnr before rs last Over held at is h =
    subst (λ (o : Option Held). Adds u a b (record { progress = old; held = None }) (numbered_in name fnr (rs ++ records_by u.rs last)) Over (record { progress = new; held = o })) (sym is)
    (last_unread u a b old new name fnr rs (records_by u.rs last) h)

-- Bytes in two, of which the first are none, and the others have no record.
pub no_record : (rs bytes front last : List ℕ) → records_by rs bytes ≡ records_by rs front ++ records_by rs last → front ≡ [] → length (records_by rs last) ≡ 0 → records_by rs bytes ≡ []
no_record rs bytes front last split none few =
    split ∙ ap (λ l. l ++ records_by rs last) (ap (records_by rs) none ∙ no_records rs) ∙ no_list (records_by rs last) few
  where
    no_list : (l : List (List ℕ)) → length l ≡ 0 → l ≡ []
    no_list [] h = refl
    no_list (x ∷ xs) h = absurd (omega (arith, h))

pub no_bytes : (l : List ℕ) → length l ≡ 0 → l ≡ []
no_bytes [] h = refl
no_bytes (x ∷ xs) h = absurd (omega (arith, h))
