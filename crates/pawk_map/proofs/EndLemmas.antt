-- The end of a run over a shard: all its files, and its table file.
use Rattle.std.proofs.Common.{◌≡◌, ◌∙◌, ℕ, ◌+◌, ◌<◌, ◌≤◌, List, [], ◌∷◌, ◌++◌, length, get_or, take, drop, Option, None, refl, ap, sym, subst, inl, inr, append-nil, add-zero, arith}
use Rattle.std.specs.Prelude.{◌⊎◌}
use Rattle.pawk_records.specs.Records.{records_by}
use Rattle.pawk_input.specs.Input.{File, Item, items}
use Rattle.pawk_tables.specs.Layout.{Section}
use Rattle.pawk_merge_law.specs.ChunkedRuns.{all_of}
use Rattle.pawk_shards.specs.Numbers.{AreSameButNumbers}
use Rattle.pawk_shards.specs.Told.{Tell}
use Rattle.pawk_window.specs.Feeds.{IsFileOf}
use Rattle.pawk_window.specs.declared.feed.Feed.{Feed}
use Rattle.pawk_window.proofs.PlaceLemmas.{whole_at, take_at, take_all}
use Rattle.pawk_map.specs.Sections.{EndsKept}
use Rattle.pawk_map.specs.Maps.{Ground, Goes, Tells, Adds, AreFilesOf, TellFiles, held_items, numbered_in, records_of}
use Rattle.pawk_map.specs.declared.draft.Course.{Course}
use Rattle.pawk_map.specs.declared.draft.Course.TheVariants.{On, Over}
use Rattle.pawk_map.specs.declared.draft.Draft.{Draft}
use Rattle.pawk_map.specs.declared.draft.Progress.{Progress}
use Rattle.pawk_map.proofs.TellLemmas.{same_then, same_append, same_refl}
use Rattle.pawk_map.proofs.MapLemmas.{adds_none, adds_then, adds_over, tells_then}
use Rattle.pawk_map.proofs.FileLemmas.{files_append, some_files, records_append, records_one, records_are}

-- ---- feeds

module _ {S : Type 0} (left : S → Option (List ℕ)) (u : Ground) (a b : Option (List ℕ)) (old new : Draft) where
  -- these feeds have files whose records were added
  abbrev pub AddsFiles : List (Feed S) → Course → Type 0
  AddsFiles feeds c = (files : List File) × AreFilesOf left feeds files × Adds u a b old (records_of u.rs files) c new

  -- this feed has
  abbrev pub AddsFile : Feed S → Course → Type 0
  AddsFile feed c = (file : File) × IsFileOf left feed file × Adds u a b old (numbered_in file.name 0 (records_by u.rs file.bytes)) c new

module _ {S : Type 0} (left : S → Option (List ℕ)) (u : Ground) where
  pub feeds_none : (a : Option (List ℕ)) (d : Draft) → AddsFiles left u a a d d [] On
  feeds_none a d = ([], tt, adds_none u a d)

  module _ (a b c : Option (List ℕ)) (d e f : Draft) (old now : List (Feed S)) (i : ℕ) (x : Feed S) (small : i < length now) (untouched : drop i now ≡ drop i old) where
    -- One file more.
    pub feeds_go : AddsFiles left u a b d e (take i old) On → AddsFile left u b c e f (get_or now i x) On → AddsFiles left u a c d f (take (i + 1) old) On
    feeds_go h k =
        let all = h.0 ++ k.0 ∷ [] in
        let rs = u.rs in (
          all,
          subst (λ l. AreFilesOf left l all) (take_at now old i x small untouched) (files_append left (take i old) (get_or now i x ∷ []) h.0 (k.0 ∷ []) h.1 (k.1, tt)),
          subst (λ l. Adds u a c d l On f) (ap (λ l. records_of rs h.0 ++ l) (sym (records_one rs k.0)) ∙ sym (records_append rs h.0 (k.0 ∷ [])))
              (adds_then u a b c d e f (records_of rs h.0) (numbered_in k.0.name 0 (records_by rs k.0.bytes)) On h.2 k.2),
        )

    -- One file more, after whose last records no more are run.
    pub feeds_end : AddsFiles left u a b d e (take i old) On → AddsFile left u b c e f (get_or now i x) Over → AddsFiles left u a c d f old Over
    feeds_end h k =
        let rest = some_files left (drop (i + 1) old) in
        let later = k.0 ∷ rest.0 in
        let all = h.0 ++ later in
        let rs = u.rs in
        let one = numbered_in k.0.name 0 (records_by rs k.0.bytes) in
        let added : Adds u b c e (records_of rs (k.0 ∷ rest.0)) Over f =
        subst (λ l. Adds u b c e l Over f) (ap (λ l. l ++ records_of rs rest.0) (sym (records_one rs k.0)) ∙ sym (records_append rs (k.0 ∷ []) rest.0))
        (adds_over u b c e f one (records_of rs rest.0) k.2) in (
          all,
          subst (λ l. AreFilesOf left l all) (whole_at now old i x small untouched) (files_append left (take i old) (get_or now i x ∷ drop (i + 1) old) h.0 later h.1 (k.1, rest.1)),
          subst (λ l. Adds u a c d l Over f) (sym (records_append rs h.0 later))
              (adds_then u a b c d e f (records_of rs h.0) (records_of rs later) Over h.2 added),
        )

  -- All files.
  pub feeds_all : (a b : Option (List ℕ)) (d e : Draft) (old : List (Feed S)) (i : ℕ) → length old ≤ i → AddsFiles left u a b d e (take i old) On → AddsFiles left u a b d e old On
  feeds_all a b d e old i all h = subst (λ l. AddsFiles left u a b d e l On) (take_all i old all) h

-- ---- all sections

module _ (u : Ground) (files : List File) (a b e : Option (List ℕ)) (d0 d1 : Draft) (w : Progress) (none : d0.held ≡ None) (zero : d0.progress.records ≡ 0) (nameless : d0.progress.name.items ≡ []) where
  -- what was written, and that it tells of the files
  abbrev pub Ends : Type 0
  Ends = (sections : List Section) × Goes u.scalars u.arrays a e d0.progress w sections w.records × TellFiles u files sections w.records

  at_begin : u.nr + d0.progress.records ≡ u.nr
  at_begin = ap (λ n. u.nr + n) zero ∙ add-zero u.nr

  end_with : (c : Course) (told unread : List Item) → AreSameButNumbers (told ++ unread) (records_of u.rs files) →
      Tells u a e d0.progress told c w → (c ≡ On → unread ≡ []) → Ends
  end_with c told unread are h on =
      let counted : w.records ≡ length (all_of h.chunks) = let k = h.goes.counted in omega (arith, k, zero) in (
        h.sections,
        subst (Goes u.scalars u.arrays a e d0.progress w h.sections) (sym counted) h.goes,
        record {
          chunks = h.chunks;
          unread = unread;
          tell = subst (λ n. Tell u.phase u.rs n [] h.sections h.chunks) at_begin
              (subst (λ n. Tell u.phase u.rs (u.nr + d0.progress.records) n h.sections h.chunks) nameless h.tell);
          counted = counted;
          are = same_then (all_of h.chunks ++ unread) (told ++ unread) (items u.rs files) (same_append (all_of h.chunks) told unread unread h.are (same_refl unread))
              (same_then (told ++ unread) (records_of u.rs files) (items u.rs files) are (records_are u.rs files));
          whole = whole c on (λ over. subst (λ n. EndsKept u.phase n h.sections h.chunks) at_begin (h.stops over));
        },
      )
    where
      whole : (c : Course) → (c ≡ On → unread ≡ []) → (c ≡ Over → EndsKept u.phase u.nr h.sections h.chunks) → (unread ≡ []) ⊎ EndsKept u.phase u.nr h.sections h.chunks
      whole On on over = inl (on refl)
      whole Over on over = inr (over refl)

  -- The records of all files were added, and the one that was held back was kept.
  pub files_end : (c : Course) → Adds u a b d0 (records_of u.rs files) c d1 → Tells u b e d1.progress (held_items u.rs d1.held) On w →
      (d1.held ≡ None → (w ≡ d1.progress) × (e ≡ b)) → Ends
  files_end On h k same =
      let held = held_items u.rs d1.held in
      let all : AreSameButNumbers (h.told ++ held) (records_of u.rs files) =
      subst (λ l. AreSameButNumbers (h.told ++ held) l) (ap (λ o. held_items u.rs o ++ records_of u.rs files) none)
      (subst (λ l. AreSameButNumbers (h.told ++ l) (held_items u.rs d0.held ++ records_of u.rs files)) (ap (λ l. held ++ l) (h.on refl) ∙ append-nil held) h.are) in
      end_with On (h.told ++ held) [] (subst (λ l. AreSameButNumbers l (records_of u.rs files)) (sym (append-nil (h.told ++ held))) all)
      (tells_then u a b e d0.progress d1.progress w h.told held On h.tells k) (λ on. refl)
  files_end Over h k same =
      let gone = same (h.over refl) in
      let all : AreSameButNumbers (h.told ++ h.unread) (records_of u.rs files) =
      subst (λ l. AreSameButNumbers (h.told ++ h.unread) l) (ap (λ o. held_items u.rs o ++ records_of u.rs files) none)
      (subst (λ o. AreSameButNumbers (h.told ++ (held_items u.rs o ++ h.unread)) (held_items u.rs d0.held ++ records_of u.rs files)) (h.over refl) h.are) in
      end_with Over h.told h.unread all
      (subst (λ v. Tells u a v d0.progress h.told Over w) (sym gone.1) (subst (λ v. Tells u a b d0.progress h.told Over v) (sym gone.0) h.tells)) (λ on. absurd cc)
