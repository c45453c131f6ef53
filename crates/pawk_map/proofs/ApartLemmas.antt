-- Pieces of a file whose chunks were run apart, as their lines tell of them.
use Rattle.std.proofs.Common.{◌≡◌, ◌∙◌, ℕ, true, false, List, [], ◌∷◌, ◌++◌, length, map, Option, Some, None, Vec, Global, refl, ap, sym, subst, append-nil, add-zero, arith}
use Rattle.std.specs.Prelude.{All, MatchOption, is_some}
use Rattle.std.proofs.lemmas.List.Concat.{flat_map-cons}
use Rattle.std.proofs.lemmas.List.Elements.{All-head}
use Rattle.pawk_records.specs.Records.{records_by}
use Rattle.pawk_input.specs.Input.{Item, file_items}
use Rattle.pawk_merge.specs.MergeViews.{chunk_of}
use Rattle.pawk_merge.specs.declared.chunk_result.ChunkResult.{ChunkResult}
use Rattle.pawk_merge_law.specs.Phases.{Phase, MayRun}
use Rattle.pawk_merge_law.specs.ChunkedRuns.{Ran, HasRecord, all_of}
use Rattle.pawk_tables.specs.Layout.{kept}
use Rattle.pawk_pieces.specs.declared.piece.Piece.{Piece}
use Rattle.pawk_pieces.specs.Pieces.{piece_items}
use Rattle.pawk_shards.specs.Apart.{LeavesLaw}
use Rattle.pawk_shards.specs.Joined.{NotesLaw}
use Rattle.pawk_shards.specs.Numbers.{AreSameButNumbers}
use Rattle.pawk_shards.specs.Told.{kept_records}
use Rattle.pawk_map.specs.Sections.{DoesNotGoThrough, SaySections}
use Rattle.pawk_map.specs.Parted.{AreTablesOf, all_through, parts_from}
use Rattle.pawk_map.specs.Runs.{DoNotGoThrough, IsApart, SayParts}
use Rattle.pawk_map.specs.declared.apart.Apart.{Apart}
use Rattle.pawk_map.proofs.TellLemmas.{same_refl, same_then, same_file, file_length}
use Rattle.pawk_map.proofs.PartLemmas.{has_first, has_more, parts_tell, parts_fit, parts_name, parts_stop, Stopping}

-- ---- chunks

no_parts : (p : Phase) (chunks : List (List Item)) (results : List ChunkResult) (nr : ℕ) → All HasRecord chunks → Ran p nr chunks (map chunk_of results) → all_of chunks ≡ [] → parts_from nr results ≡ []
no_parts p [] [] nr each ran none = refl
no_parts p [] (r ∷ results) nr each ran none = absurd ran
no_parts p (is ∷ chunks) [] nr each ran none = absurd ran
no_parts p (is ∷ chunks) (r ∷ results) nr each ran none = absurd (subst HasRecord none (has_first is chunks (All-head HasRecord is chunks each)))

module _ (p : Phase) (may : MayRun p) where
  -- The parts of chunks that were all left through.
  pub say_parts : LeavesLaw → NotesLaw → (nr : ℕ) (chunks : List (List Item)) (results : List ChunkResult) (items : List Item) (lines : List ℕ) →
      All HasRecord chunks → Ran p nr chunks (map chunk_of results) → all_of chunks ≡ items → all_through results ≡ true →
      ((scalars arrays : ℕ) → AreTablesOf scalars arrays results → SaySections scalars arrays (parts_from nr results) lines) → SayParts p nr items lines
  say_parts leaves notes nr chunks results items lines each ran all on say = record {
    sections = parts_from nr results;
    chunks = chunks;
    say = say (length p.globals.scalars) (length p.globals.arrays) (parts_fit p may notes chunks results nr ran on);
    tell = λ rs name. parts_tell p may leaves rs name chunks results nr each ran on;
    name = λ name. parts_name nr results name;
    all = all;
    none = λ none. no_parts p chunks results nr each ran (all ∙ none);
  }

  -- Chunks of which some was not.
  pub stop_parts : (nr : ℕ) (chunks : List (List Item)) (results : List ChunkResult) (items : List Item) →
      All HasRecord chunks → Ran p nr chunks (map chunk_of results) → all_of chunks ≡ items → all_through results ≡ false → DoNotGoThrough p nr items
  stop_parts nr chunks results items each ran all off =
      let s : Stopping p may nr (all_of chunks) = parts_stop p may chunks results nr each ran off in
      let are : s.before ++ (s.chunk ++ s.after) ≡ items = s.are ∙ all in
      record {
        some = subst HasRecord are (has_more s.before (s.chunk ++ s.after) (has_front s.chunk s.after s.some));
        stops = record {
          before = s.before;
          chunk = s.chunk;
          after = s.after;
          are = subst (AreSameButNumbers (s.before ++ (s.chunk ++ s.after))) are (same_refl (s.before ++ (s.chunk ++ s.after)));
          result = s.result;
          told = s.told;
          stops = s.stops;
        };
      }
    where
      has_front : (xs ys : List Item) → HasRecord xs → HasRecord (xs ++ ys)
      has_front [] ys h = absurd h
      has_front (x ∷ xs) ys h = tt

-- ---- pieces

pub is_none : {A : Type 0} (o : Option A) → is_some o ≡ false → o ≡ None
is_none None h = refl
is_none (Some x) h = absurd cc

module _ (p : Phase) (nr : ℕ) (piece : Piece) (x : Apart) (items : List Item) where
  abbrev records : List (List ℕ)
  records = records_by piece.rs.now piece.bytes.items

  abbrev kept_all : List Item
  kept_all = kept_records piece.rs.now piece.name.now piece.fnr piece.bytes.items

  apart_parts : items ≡ file_items 0 piece.name.now nr piece.fnr records → x.records ≡ length records → (x.is_through ≡ false → ⊥) → (lines : List ℕ) → SayParts p nr items lines → x.lines.items ≡ lines → IsApart p nr piece x
  apart_parts are counted on lines h said =
      let long : x.records ≡ length items = counted ∙ sym (file_length 0 piece.name.now nr piece.fnr records) ∙ ap length (sym are) in
      record {
        sections = h.sections;
        chunks = h.chunks;
        say = subst (SaySections (length p.globals.scalars) (length p.globals.arrays) h.sections) (sym said) h.say;
        tell = h.tell piece.rs.now piece.name.now;
        name = h.name piece.name.now;
        are = subst (λ l. AreSameButNumbers l (piece_items piece)) (sym (h.all ∙ are)) (same_file 0 0 piece.name.now nr 0 piece.fnr records);
        counted = long ∙ ap length (sym h.all);
        none = λ none. h.none (no_items items (sym long ∙ none));
        stops = λ off. absurd (on off);
      }
    where
      no_items : (is : List Item) → length is ≡ 0 → is ≡ []
      no_items [] h = refl
      no_items (i ∷ is) h = absurd (omega (arith, h))

  apart_kept : items ≡ file_items 0 piece.name.now nr piece.fnr records → x.records ≡ length records → DoNotGoThrough p nr items → ((scalars arrays : ℕ) → SaySections scalars arrays (kept piece.fnr piece.bytes.items ∷ []) x.lines.items) → IsApart p nr piece x
  apart_kept are counted h say =
      let one : all_of (kept_all ∷ []) ≡ kept_all = flat_map-cons (λ (l : List Item). l) kept_all [] ∙ append-nil kept_all in
      let long : x.records ≡ length kept_all = counted ∙ sym (file_length 0 piece.name.now 0 piece.fnr records) in
      let same : AreSameButNumbers items kept_all =
      subst (λ l. AreSameButNumbers l kept_all) (sym are) (same_file 0 0 piece.name.now nr 0 piece.fnr records) in
      let some : HasRecord kept_all = same_some items kept_all same h.some in
      let d = h.stops in
      record {
        sections = kept piece.fnr piece.bytes.items ∷ [];
        chunks = kept_all ∷ [];
        say = say (length p.globals.scalars) (length p.globals.arrays);
        tell = (some, refl, tt);
        name = refl;
        are = subst (λ l. AreSameButNumbers l (piece_items piece)) (sym one) (same_refl kept_all);
        counted = long ∙ ap length (sym one);
        none = λ none. absurd (some_long kept_all some (sym long ∙ none));
        stops = λ off. record {
          front = [];
          fnr = piece.fnr;
          bytes = piece.bytes.items;
          is = refl;
          first = [];
          last = kept_all;
          are = refl;
          stops = subst (λ n. DoesNotGoThrough p n kept_all) (sym (add-zero nr)) (record {
            before = d.before;
            chunk = d.chunk;
            after = d.after;
            are = same_then (d.before ++ (d.chunk ++ d.after)) items kept_all d.are same;
            result = d.result;
            told = d.told;
            stops = d.stops;
          });
        };
      }
    where
      same_some : (is js : List Item) → AreSameButNumbers is js → HasRecord is → HasRecord js
      same_some [] js h k = absurd k
      same_some (i ∷ is) [] h k = absurd h
      same_some (i ∷ is) (j ∷ js) h k = tt

      some_long : (is : List Item) → HasRecord is → length is ≡ 0 → ⊥
      some_long [] h k = absurd h
      some_long (i ∷ is) h k = omega (arith, k)

  -- The lines of a piece are those of parts, or keep its records.
  pub is_apart : (parts : Option (Vec ℕ Global)) → items ≡ file_items 0 piece.name.now nr piece.fnr records → x.records ≡ length records → (x.is_through ≡ false → parts ≡ None) →
      MatchOption parts (DoNotGoThrough p nr items) (λ (lines : Vec ℕ Global). SayParts p nr items lines.items) →
      MatchOption parts ((scalars arrays : ℕ) → SaySections scalars arrays (kept piece.fnr piece.bytes.items ∷ []) x.lines.items) (λ (said : Vec ℕ Global). x.lines.items ≡ said.items) →
      IsApart p nr piece x
  is_apart None are counted on told said = apart_kept are counted told said
  is_apart (Some lines) are counted on told said = apart_parts are counted (λ off. let bad = on off in absurd cc) lines.items told said
