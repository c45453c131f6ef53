-- The tables of all shards, one after the other, are the run over all files.
use Rattle.std.proofs.Common.{◌≡◌, ℕ, Vec, List, [], ◌∷◌, ◌++◌, length, true, ◌+◌, ⊎_elim, map, All, Option, None, Result, Ok, refl, ap, sym, ◌∙◌, subst, append_assoc, append-nil}
use Rattle.std.specs.Prelude.{flat_map}
use Rattle.std.specs.declared.alloc.Global.{Global}
use Rattle.std.proofs.lemmas.List.Elements.{All-head, All-tail}
use Rattle.std.proofs.KnownBytes.{Appends-nil, Appends-trans}
use Rattle.std.specs.Io.KnownBytes.{Appends}
use Rattle.pawk_code.specs.Programs.{Code}
use Rattle.pawk_input.specs.Input.{File, Item, items}
use Rattle.pawk_store.specs.Globals.{Globals, calls}
use Rattle.pawk_admit.specs.Roles.{roles_view}
use Rattle.pawk_admit.specs.declared.reason.Reason.{Reason}
use Rattle.pawk_admit.specs.declared.role.Roles.{Roles as CodeRoles}
use Rattle.pawk_store.specs.Records.{Left, through, next_file, exit, fault, clash, End}
use Rattle.pawk_store.specs.Runs.{Finish, records_from, after_records}
use Rattle.pawk_store.specs.LeftViews.{left_view}
use Rattle.pawk_store.specs.Outputs.{finish_with_output_before, OutputStaysLaw}
use Rattle.pawk_merge_law.specs.Phases.{Phase, MayRun, in_order}
use Rattle.pawk_merge_law.specs.ChunkedRuns.{all_of}
use Rattle.pawk_merge_law.specs.Flows.{Pairs, plain_turn, FilesFollowLaw}
use Rattle.pawk_flow.specs.Begins.{AreRolesFrom}
use Rattle.pawk_flow.specs.Operands.{Operands, assigned, rest_over, run_over, AssignedLaw}
use Rattle.pawk_flow.specs.Pieces.{end_between, phase_between}
use Rattle.pawk_flow.specs.Flow.{Flow}
use Rattle.pawk_numbered.specs.Mentions.{reads_number}
use Rattle.pawk_shards.specs.Apart.{OpeningLaw, LaterLaw}
use Rattle.pawk_shards.specs.Numbers.{AreSameButNumbers, RenumberedLaw, ShardFilesLaw}
use Rattle.pawk_shards.specs.Told.{Tell}
use Rattle.pawk_tables.specs.Layout.{Section}
use Rattle.pawk_tables.specs.Reading.{AreInTurn}
use Rattle.pawk_tables.specs.declared.section.Shape.{Shape}
use Rattle.pawk_table_merge.specs.declared.merging.Merging.{Merging}
use Rattle.pawk_table_merge.specs.declared.merging.Conclusion.{Conclusion}
use Rattle.pawk_table_merge.specs.declared.merging.TableEnd.{TableEnd}
use Rattle.pawk_table_merge.specs.declared.merging.TableEnd.TheVariants as table_end
use Rattle.pawk_table_merge.specs.TableMerges.{phase_from, end_at, IsAt, LeavesSo, IsBegin, Concludes}
use Rattle.pawk_table_merge.specs.Runs.{ShardTable, DoesNotGoThrough, TellsOf, AfterTable, MergesAll}
use Rattle.pawk_table_merge.proofs.KeptLemmas.{written}
use Rattle.pawk_table_merge.proofs.TableLemmas.{comes_after}
use Rattle.pawk_table_merge.proofs.WholeLemmas.{same_append, not_through}
use Rattle.pawk_table_merge.proofs.WholeLemmas as wholes

-- the laws that these stand on
pub record Laws : Type 0 where
  pub whole : wholes.Laws
  pub opening : OpeningLaw
  pub later : LaterLaw
  pub renumbered : RenumberedLaw
  pub files : ShardFilesLaw
  pub follow : FilesFollowLaw calls
  pub behind : OutputStaysLaw calls
  pub assigned : AssignedLaw

-- the records that tables tell of
abbrev all_told : List ShardTable → List Item
all_told tables = flat_map (λ t. all_of t.chunks ++ t.unread) tables

-- ---- the records of all files

same_told : (p : Phase) (rs : List ℕ) (shape : Shape) (tables : List ShardTable) → All (TellsOf p rs shape) tables →
    AreSameButNumbers (all_told tables) (flat_map (λ files. items rs files) (map (λ t. t.files) tables))
same_told p rs shape [] h = tt
same_told p rs shape (t ∷ ts) h =
    same_append (all_of t.chunks ++ t.unread) (items rs t.files) (all_told ts) (flat_map (λ files. items rs files) (map (λ t. t.files) ts))
    (All-head (TellsOf p rs shape) t ts h).records (same_told p rs shape ts (All-tail (TellsOf p rs shape) t ts h))

files_of : (tables : List ShardTable) → flat_map (λ files. files) (map (λ t. t.files) tables) ≡ flat_map (λ t. t.files) tables
files_of [] = refl
files_of (t ∷ ts) = ap (λ l. t.files ++ l) (files_of ts)

-- ---- tables one after the other

-- where a run got: what it wrote, and how the records ended
record Gets (p : Phase) (items : List Item) (output : List ℕ) (taken now_taken : Option (List ℕ)) (left : Left) (x : Merging) : Type 0 where
  wrote : List ℕ
  appends : Appends taken now_taken wrote
  ends : in_order p items ≡ record (end_at x.flow (output ++ wrote)) { left = left }

-- what a table says of a run, for what stays the same
abbrev Says : Code → ℕ → End Globals → ShardTable → List ℕ → Flow → Flow → TableEnd → CodeRoles → Vec ℕ Global → Shape → Type 0
Says code budget b t wrote old new end r v h =
    MayRun (phase_from code (roles_view r) budget b) → (items : List Item) (output : List ℕ) → IsAt (phase_from code (roles_view r) budget b) items (end_at old output) →
    (sections : List Section) (count : ℕ) → AreInTurn h.scalars h.arrays t.bytes sections count →
    (chunks : List (List Item)) → Tell (phase_from code (roles_view r) budget b) v.items (b.state.nr + t.before) [] sections chunks →
    LeavesSo (phase_from code (roles_view r) budget b) (items ++ all_of chunks) (output ++ wrote) new end

module _ (law : Laws) (code : Code) (budget : ℕ) (b : End Globals) (r : CodeRoles) (v : Vec ℕ Global) (h : Shape) (may : MayRun (phase_from code (roles_view r) budget b)) where
  abbrev p : Phase
  p = phase_from code (roles_view r) budget b

  first_then : (items : List Item) (t : ShardTable) (ts : List ShardTable) → items ++ all_told (t ∷ ts) ≡ (items ++ all_of t.chunks) ++ (t.unread ++ all_told ts)
  first_then items t ts = ap (λ l. items ++ l) (append_assoc (all_of t.chunks) t.unread (all_told ts)) ∙ sym (append_assoc items (all_of t.chunks) (t.unread ++ all_told ts))

  -- a run ended in a table
  ended : (items : List Item) (output : List ℕ) (taken now_taken : Option (List ℕ)) (t : ShardTable) (ts : List ShardTable) (left l : Left) (x y : Merging) (wrote : List ℕ) →
      Appends taken now_taken wrote → in_order p (items ++ all_of t.chunks) ≡ record (end_at y.flow (output ++ wrote)) { left = l } → ¬ (l ≡ through) → left ≡ l → y ≡ x →
      Gets p (items ++ all_told (t ∷ ts)) output taken now_taken left x
  ended items output taken now_taken t ts left l x y wrote appends ends closed left_is same =
      let closed_all : ¬ ((in_order p (items ++ all_of t.chunks)).left ≡ through) = λ on. closed (sym (ap (λ (e : End Globals). e.left) ends) ∙ on) in
      record {
        wrote = wrote;
        appends = appends;
        ends = ap (λ (k : List Item). in_order p k) (first_then items t ts)
            ∙ ((law.later p may (items ++ all_of t.chunks) (t.unread ++ all_told ts)).1 closed_all).0
            ∙ ends
            ∙ (λ j. record (end_at (same j).flow (output ++ wrote)) { left = (sym left_is) j });
      }

  -- the others follow
  more_get : (t : ShardTable) (ts : List ShardTable) (items : List Item) (output : List ℕ) (taken mid now_taken : Option (List ℕ)) (y x : Merging) (left : Left) (wrote : List ℕ) →
      t.unread ≡ [] → Appends taken mid wrote → Gets p ((items ++ all_of t.chunks) ++ all_told ts) (output ++ wrote) mid now_taken left x → Gets p (items ++ all_told (t ∷ ts)) output taken now_taken left x
  more_get t ts items output taken mid now_taken y x left wrote whole_is appends next = record {
    wrote = wrote ++ next.wrote;
    appends = Appends-trans taken mid now_taken wrote next.wrote appends next.appends;
    ends = ap (λ (k : List Item). in_order p k) (first_then items t ts ∙ ap (λ (u : List Item). (items ++ all_of t.chunks) ++ (u ++ all_told ts)) whole_is) ∙ next.ends
        ∙ ap (λ (o : List ℕ). record (end_at x.flow o) { left = left }) (append_assoc output wrote next.wrote);
  }

  -- however a table was left
  after_table : (t : ShardTable) (ts : List ShardTable) (items : List Item) (output : List ℕ) (taken mid now_taken : Option (List ℕ)) (y x : Merging) (left : Left) (wrote : List ℕ) (More : Type 0) →
      (IsAt p (items ++ all_of t.chunks) (end_at y.flow (output ++ wrote)) → t.unread ≡ []) → Appends taken mid wrote →
      (More → IsAt p (items ++ all_of t.chunks) (end_at y.flow (output ++ wrote)) → Gets p ((items ++ all_of t.chunks) ++ all_told ts) (output ++ wrote) mid now_taken left x) →
      (end : TableEnd) → LeavesSo p (items ++ all_of t.chunks) (output ++ wrote) y.flow end → AfterTable end More (λ l. (mid ≡ now_taken) × (left ≡ l) × (y ≡ x)) →
      Gets p (items ++ all_told (t ∷ ts)) output taken now_taken left x
  after_table t ts items output taken mid now_taken y x left wrote More whole_is appends next table_end.Through so after =
      more_get t ts items output taken mid now_taken y x left wrote (whole_is so) appends (next after so)
  after_table t ts items output taken mid now_taken y x left wrote More whole_is appends next (table_end.Ended l) so after =
      ended items output taken now_taken t ts left (left_view l) x y wrote (subst (λ (n : Option (List ℕ)). Appends taken n wrote) after.0 appends) so.0 so.1 after.1 after.2
  after_table t ts items output taken mid now_taken y x left wrote More whole_is appends next (table_end.Stopped stop) so after = absurd after

  all_get : (tables : List ShardTable) (items : List Item) (output : List ℕ) (taken now_taken : Option (List ℕ)) (m x : Merging) (left : Left) →
      m.roles ≡ r → m.rs ≡ v → m.shape ≡ h → m.opened ≡ b.state.nr → IsAt p items (end_at m.flow output) → All (TellsOf p v.items h) tables →
      MergesAll code budget taken now_taken m tables left x → Gets p (items ++ all_told tables) output taken now_taken left x
  all_get [] items output taken now_taken m x left roles rs shape opened at told merges =
      let here : end_at m.flow output ≡ record (end_at x.flow (output ++ [])) { left = left } =
      λ j. record (end_at (merges.2 j).flow ((sym (append-nil output)) j)) { left = (sym merges.1) j } in
      record {
        wrote = [];
        appends = subst (λ (n : Option (List ℕ)). Appends taken n []) merges.0 (Appends-nil taken);
        ends = ap (λ (k : List Item). in_order p k) (append-nil items) ∙ at.ends ∙ here;
      }
  all_get (t ∷ ts) items output taken now_taken m x left roles rs shape opened at told merges =
      let y = merges.0 in
      let end = merges.1 in
      let mid = merges.2 in
      let one = merges.3 in
      let same = merges.4 in
      let says : Says code budget b t one.wrote m.flow y.flow end r v h =
      subst (λ T. T) (λ j. Says code budget b t one.wrote m.flow y.flow end (roles j) (rs j) (shape j)) (λ go items' output' is sections count turn chunks told'. one.is b go opened items' output' is sections count turn chunks told') in
      let here = All-head (TellsOf p v.items h) t ts told in
      let so = says may items output at t.sections t.count here.in_turn t.chunks here.told in
      let numbered : reads_number code ≡ true → t.before ≡ length items = λ reads. comes_after p items (end_at m.flow output) t.before m.opened at.come opened (one.numbered reads) in
      let none : (f : End Globals) → IsAt p (items ++ all_of t.chunks) f → DoesNotGoThrough p (b.state.nr + t.before) (all_of t.chunks) → ⊥ =
      λ f is stops. not_through law.whole p may items (all_of t.chunks) t.before numbered stops (ap (λ (e : End Globals). e.left) is.ends ∙ is.come.left) is.come.harmless in
      after_table t ts items output taken mid now_taken y x left one.wrote (MergesAll code budget mid now_taken y ts left x)
      (λ is. ⊎_elim (λ k. k) (λ stops. absurd (none (end_at y.flow (output ++ one.wrote)) is stops)) here.whole) one.appends
      (λ after is. all_get ts (items ++ all_of t.chunks) (output ++ one.wrote) mid now_taken y x left (same.roles ∙ roles) (same.rs ∙ rs) (same.shape ∙ shape) (same.opened ∙ opened) is (All-tail (TellsOf p v.items h) t ts told) after)
      end so merges.5

-- ---- the whole run

-- What follows records is told by how they were left, and not by how their end says it.
told_by : (code : Code) (budget : ℕ) (l : Left) (e : End Globals) (m : Left) →
    after_records calls code.expressions code budget l (record e { left = m }) ≡ after_records calls code.expressions code budget l e
told_by code budget through e m = refl
told_by code budget next_file e m = refl
told_by code budget (exit n) e m = refl
told_by code budget (fault f) e m = refl
told_by code budget clash e m = refl

-- what the roles say of records that may be run in chunks
may_from : (code : Code) (budget : ℕ) (assignments first : Pairs) (rs : List ℕ) (flow : Flow) (roles : Result CodeRoles Reason) (r : CodeRoles) → roles ≡ Ok r →
    AreRolesFrom code budget assignments first rs flow roles → MayRun (phase_between code (roles_view r) budget flow)
may_from code budget assignments first rs flow roles r is are =
    let are_ok : AreRolesFrom code budget assignments first rs flow (Ok r) = subst (λ (x : Result CodeRoles Reason). AreRolesFrom code budget assignments first rs flow x) is are in
    are_ok.2

module _ (law : Laws) (code : Code) (budget : ℕ) (assignments first : Pairs) (taken begun merged now_taken : Option (List ℕ)) (m x : Merging) (tables : List ShardTable) (left : Left) (c : Conclusion)
    (begin : IsBegin code budget assignments first taken begun m)
    (told : All (TellsOf (phase_from code (roles_view m.roles) budget (end_between m.flow)) m.rs.items m.shape) tables)
    (merges : MergesAll code budget begun merged m tables left x)
    (ends : Concludes (after_records calls code.expressions code budget left (end_between x.flow)) merged now_taken c) where
  abbrev q : Phase
  q = phase_from code (roles_view m.roles) budget (end_between m.flow)

  abbrev rs : List ℕ
  rs = m.rs.items

  abbrev files : List File
  files = flat_map (λ t. t.files) tables

  abbrev start_flow : Flow
  start_flow = begin.start.flow

  may_run : MayRun q
  may_run =
      subst (λ (f : Flow). MayRun (phase_between code (roles_view m.roles) budget f)) (sym begin.flow)
      (may_from code budget assignments first begin.start.rs.items start_flow begin.start.roles m.roles begin.roles begin.is.roles)

  opened : m.opened ≡ m.flow.state.nr
  opened = begin.opened ∙ sym (ap (λ (f : Flow). f.state.nr) begin.flow)

  got : Gets q (all_told tables) [] begun merged left x
  got =
      all_get law code budget (end_between m.flow) m.roles m.rs m.shape may_run tables [] [] begun merged m x left refl refl refl opened
      (record { ends = refl; come = law.opening q }) told merges

  abbrev wrote : List ℕ
  wrote = got.wrote

  -- the records of all files end so
  files_end : records_from calls code.expressions code budget None (end_between m.flow) (items rs files) ≡ record (end_at x.flow wrote) { left = left }
  files_end =
      let shards = map (λ t. t.files) tables in
      let some = flat_map (λ fs. items rs fs) shards in
      let one : in_order q (all_told tables) ≡ in_order q some = (law.renumbered q may_run (all_told tables) some (same_told q rs m.shape tables told)).ends in
      let two : in_order q some ≡ in_order q (items rs (flat_map (λ fs. fs) shards)) = (law.renumbered q may_run some (items rs (flat_map (λ fs. fs) shards)) (law.files rs shards)).ends in
      ap (λ (fs : List File). in_order q (items rs fs)) (sym (files_of tables)) ∙ sym two ∙ sym one ∙ got.ends

  abbrev after : Finish Globals
  after = after_records calls code.expressions code budget left (end_between x.flow)

  -- END follows them
  after_is : after_records calls code.expressions code budget left (record (end_at x.flow wrote) { left = left }) ≡ finish_with_output_before wrote after
  after_is =
      told_by code budget left (end_at x.flow wrote) left
      ∙ ap (λ (e : End Globals). after_records calls code.expressions code budget left e) (sym (written x.flow wrote))
      ∙ law.behind code.expressions code budget left wrote (end_between x.flow)

  rest : rest_over code budget rs [] (end_between m.flow) (map plain_turn files) ≡ finish_with_output_before wrote after
  rest =
      sym (law.follow (assigned code.scalars) (λ g. (law.assigned code.scalars [] [] g).0) code.expressions code budget rs (end_between m.flow) files refl)
      ∙ ap (λ (e : End Globals). after_records calls code.expressions code budget e.left e) files_end
      ∙ after_is

  abbrev operands : Operands
  operands = record { first = first; turns = map plain_turn files; last = [] }

  whole : run_over code budget assignments operands ≡ finish_with_output_before begin.start.output.items (finish_with_output_before wrote after)
  whole =
      begin.is.rest (map plain_turn files) []
      ∙ ap (finish_with_output_before begin.start.output.items)
      ((λ j. rest_over code budget ((sym begin.rs) j).items [] (end_between ((sym begin.flow) j)) (map plain_turn files)) ∙ rest)

  pub concludes : Concludes (run_over code budget assignments operands) taken now_taken c
  concludes =
      let first_output = begin.start.output.items in
      let all : Concludes (finish_with_output_before first_output (finish_with_output_before wrote after)) taken now_taken c = record {
        globals = ends.globals;
        specials = ends.specials;
        ending = ends.ending;
        wrote = Appends-trans taken begun now_taken first_output (wrote ++ after.output) begin.wrote
            (Appends-trans begun merged now_taken wrote after.output got.appends ends.wrote);
      } in
      subst (λ (f : Finish Globals). Concludes f taken now_taken c) (sym whole) all
