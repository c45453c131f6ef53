-- Pieces of a file, whose records were numbered otherwise.
use Rattle.std.proofs.Common.{◌≡◌, ◌∙◌, ℕ, ◌+◌, ◌<◌, List, [], ◌∷◌, ◌++◌, length, ap, sym, subst, Bool, true, false, None, arith, length-append}
use Rattle.std.specs.List.{flat_map}
use Rattle.std.proofs.lemmas.List.Elements.{All-head}
use Rattle.pawk_records.specs.Records.{records_by}
use Rattle.pawk_code.specs.Programs.{Code}
use Rattle.pawk_input.specs.Input.{File, Item, file_at, file_items}
use Rattle.pawk_input.specs.Plan.{chunk_items, IsPlaced, ArePlaced}
use Rattle.pawk_input.specs.declared.cutting.Chunk.{Chunk}
use Rattle.pawk_input.proofs.ItemsLemmas.{length-file_items}
use Rattle.pawk_world.specs.Worlds.{Calls}
use Rattle.pawk_store.specs.Globals.{Globals, calls}
use Rattle.pawk_store.specs.RecordStates.{RecordState}
use Rattle.pawk_store.specs.Records.{End, through}
use Rattle.pawk_store.specs.Runs.{records_from}
use Rattle.pawk_merge_law.specs.Phases.{Phase, in_order}
use Rattle.pawk_merge_law.specs.Flows.{FnrLaw, NumbersLaw}
use Rattle.pawk_merge_law.specs.Redone.{FaultNumbersLaw}
use Rattle.pawk_code.specs.ProgramViews.{code_view}
use Rattle.pawk_admit.specs.Roles.{Roles, roles_view}
use Rattle.pawk_admit.specs.declared.role.Roles.{Roles as CodeRoles}
use Rattle.pawk_store.specs.Outputs.{in_a_row}
use Rattle.pawk_store.specs.LeftViews.{left_view}
use Rattle.pawk_pieces.specs.Job.{Job}
use Rattle.pawk_routes.specs.Prologue.{end_of}
use Rattle.pawk_routes.specs.declared.prologue.Prologue.{Prologue}
use Rattle.pawk_pieces.specs.Pieces.{GoesInChunks, RunsPiece, end_between, passed_end, phase_between, piece_end, piece_items, piece_records}
use Rattle.pawk_flow.specs.Stages.{EndsAs, WentFar, phase_in}
use Rattle.pawk_pieces.specs.declared.flow.Flow.{Flow}
use Rattle.pawk_pieces.specs.declared.piece.Piece.{Piece}
use Rattle.pawk_pieces.specs.declared.piece.PieceEnd.{PieceEnd}

-- the records of a file that is the only one
pub of_one : (rs : List ℕ) (files : List File) (f : File) (nr fnr : ℕ) (is : List Item) → files ≡ f ∷ [] →
    is ≡ file_items 0 (file_at files 0).name nr fnr (records_by rs (file_at files 0).bytes) →
    is ≡ file_items 0 f.name nr fnr (records_by rs f.bytes)
of_one rs files f nr fnr is one h =
    h ∙ ap (λ (fs : List File). file_items 0 (file_at fs 0).name nr fnr (records_by rs (file_at fs 0).bytes)) one

module _ (name : List ℕ) (nr fnr : ℕ) (records : List (List ℕ)) where
  abbrev numbered : List Item
  numbered = file_items 0 name nr fnr records

  -- a plan without chunks has no records
  none_read : (rs : List ℕ) (files : List File) (plan : List Chunk) → length plan ≡ 0 →
      flat_map (chunk_items rs files) plan ≡ numbered → length records ≡ 0
  none_read rs files [] none is = sym (length-file_items 0 name nr fnr records) ∙ sym (ap length is)
  none_read rs files (c ∷ cs) none is = absurd (omega (arith, none))

  -- a plan with chunks has some
  some_read : (rs : List ℕ) (files : List File) (plan : List Chunk) → ArePlaced rs files plan → 0 < length plan →
      flat_map (chunk_items rs files) plan ≡ numbered → 0 < length records
  some_read rs files [] placed some is = absurd (omega (arith, some))
  some_read rs files (c ∷ cs) placed some is =
      let Q : Chunk → Type 0 = λ d. IsPlaced rs files d in
      let first : 0 < length (chunk_items rs files c) = (All-head Q c cs placed).chunk.some in
      let whole : length (chunk_items rs files c ++ flat_map (chunk_items rs files) cs) ≡ length numbered = ap length is in
      omega (arith, first, whole, length-append (chunk_items rs files c) (flat_map (chunk_items rs files) cs), length-file_items 0 name nr fnr records)

module _ {S : Type 0} (answers : Calls S) (code : Code) (budget : ℕ) where
  abbrev records_of : End S → List Item → End S
  records_of e items = records_from answers code.expressions code budget None e items

  -- after the records of a plan that were left through, FNR is the number of the last of them
  counts_some : FnrLaw answers → (e : End S) (name : List ℕ) (nr fnr : ℕ) (records : List (List ℕ)) → 0 < length records →
      (records_of e (file_items 0 name nr fnr records)).left ≡ through → (records_of e (file_items 0 name nr fnr records)).state.fnr ≡ fnr + length records
  counts_some law e name nr fnr [] some on = absurd (omega (arith, some))
  counts_some law e name nr fnr (r ∷ rest) some on = law code.expressions code budget e name nr fnr r rest on

  -- how many records of the file have come, where a piece was left through
  pub counts : FnrLaw answers → (rs : List ℕ) (files : List File) (plan : List Chunk) (e x : End S) (name : List ℕ) (nr fnr : ℕ) (records : List (List ℕ)) →
      ArePlaced rs files plan → flat_map (chunk_items rs files) plan ≡ file_items 0 name nr fnr records →
      records_of e (flat_map (chunk_items rs files) plan) ≡ x →
      (count : ℕ) → (length plan ≡ 0 → count ≡ fnr) → (0 < length plan → count ≡ x.state.fnr) → x.left ≡ through → count ≡ fnr + length records
  counts law rs files [] e x name nr fnr records placed is ends count none some on =
      let no : length records ≡ 0 = none_read name nr fnr records rs files [] (omega arith) is in
      let same : count ≡ fnr = none (omega arith) in
      omega (arith, no, same)
  counts law rs files (c ∷ cs) e x name nr fnr records placed is ends count none some on =
      let more : 0 < length (c ∷ cs) = omega arith in
      let read = some_read name nr fnr records rs files (c ∷ cs) placed more is in
      let at : records_of e (file_items 0 name nr fnr records) ≡ x = ap (λ items. records_of e items) (sym is) ∙ ends in
      some more ∙ ap (λ (y : End S). y.state.fnr) (sym at) ∙ counts_some law e name nr fnr records read (ap (λ (y : End S). y.left) at ∙ on)

  -- the records of a piece end as those of its plan
  pub numbers : NumbersLaw answers → (e x : End S) (name : List ℕ) (nr fnr : ℕ) (records : List (List ℕ)) (is : List Item) →
      is ≡ file_items 0 name nr fnr records → records_of e is ≡ x → records_of e (file_items 0 name 0 fnr records) ≡ x
  numbers law e x name nr fnr records is same ends =
      sym (law code.expressions code budget e 0 name nr fnr records) ∙ ap (λ items. records_of e items) (sym same) ∙ ends

  -- records that are run from an end that is this one
  pub begins_at : (e d x : End S) (items : List Item) → e ≡ d → records_of e items ≡ x → records_of d items ≡ x
  begins_at e d x items same ends = ap (λ (y : End S). records_of y items) (sym same) ∙ ends

-- a piece ends the same by two ends that are the same but for the count of records and the bytes
pub same_end : {S : Type 0} (w : S) (state : RecordState) (x y : PieceEnd) → EndsAs x y → passed_end w state x ≡ passed_end w state y
same_end w state x y same =
    λ i. record { world = w; state = state; output = in_a_row (sym same.outputs i); left = left_view (sym same.left i) }

-- a run that goes on from a flow begins as its phase does
pub same_phase : (job : Job) (roles : CodeRoles) (b : Prologue) (old : Flow) → end_of b ≡ end_between old →
    phase_in job roles b ≡ phase_between (code_view job.code.now) (roles_view roles) job.budget old
same_phase job roles b old is =
    let P : End Globals → Phase = λ x. record {
      code = code_view job.code.now;
      roles = roles_view roles;
      eres = (code_view job.code.now).expressions;
      budget = job.budget;
      globals = x.world;
      state = x.state;
      output = [];
    } in
    ap P is

module _ (piece : Piece) (files : List File) (plan : List Chunk) (nr : ℕ)
    (one : files ≡ record { name = piece.name.now; bytes = piece.bytes.items } ∷ [])
    (placed : ArePlaced piece.rs.now files plan)
    (is : flat_map (chunk_items piece.rs.now files) plan ≡ file_items 0 (file_at files 0).name nr piece.fnr (records_by piece.rs.now (file_at files 0).bytes)) where
  abbrev of_plan : List Item
  of_plan = flat_map (chunk_items piece.rs.now files) plan

  here : of_plan ≡ file_items 0 piece.name.now nr piece.fnr (piece_records piece)
  here = of_one piece.rs.now files (record { name = piece.name.now; bytes = piece.bytes.items }) nr piece.fnr of_plan one is

  module _ {S : Type 0} (answers : Calls S) (code : Code) (budget : ℕ) (e x : End S) (ends : records_from answers code.expressions code budget None e of_plan ≡ x) where
    -- the records of a plan of the piece are its records
    pub passed : NumbersLaw answers → records_from answers code.expressions code budget None e (piece_items piece) ≡ x
    passed law = numbers answers code budget law e x piece.name.now nr piece.fnr (piece_records piece) of_plan here ends

    -- they are counted
    pub counted : FnrLaw answers → (count : ℕ) → (length plan ≡ 0 → count ≡ piece.fnr) → (0 < length plan → count ≡ x.state.fnr) → x.left ≡ through → count ≡ piece.fnr + length (piece_records piece)
    counted law count none some on = counts answers code budget law piece.rs.now files plan e x piece.name.now nr piece.fnr (piece_records piece) placed here ends count none some on

  module _ (code : Code) (budget : ℕ) (old new : Flow) where
    -- both, of a run between two pieces
    pub runs : NumbersLaw calls → FnrLaw calls → (end x : PieceEnd) →
        records_from calls code.expressions code budget None (end_between old) of_plan ≡ piece_end new end →
        end.fnr ≡ new.state.fnr → EndsAs end x → (length plan ≡ 0 → x.fnr ≡ piece.fnr) → (0 < length plan → x.fnr ≡ end.fnr) →
        RunsPiece code budget piece old new x
    runs law fnr_law end x ends at same none some =
        let whole : records_from calls code.expressions code budget None (end_between old) of_plan ≡ piece_end new x = ends ∙ same_end new.globals new.state end x same in
        record {
          ends = passed calls code budget (end_between old) (piece_end new x) whole law;
          counts = λ on. counted calls code budget (end_between old) (piece_end new x) whole fnr_law x.fnr none (λ h. some h ∙ at) on;
        }

    went_by : FaultNumbersLaw → (roles : Roles) (end : PieceEnd) (b : Bool) →
        WentFar (phase_between code roles budget old) (file_items 0 piece.name.now nr piece.fnr (piece_records piece)) (piece_end new end) b →
        GoesInChunks code roles budget piece old new b
    went_by law roles end false h = (
      λ bad. h.0 ((law (phase_between code roles budget old) 0 piece.name.now nr piece.fnr (piece_records piece)).1 bad),
      record { allows = h.1.allows; role_slots = h.1.role_slots; in_order = h.1.in_order; numbers = h.1.numbers },
    )
    went_by law roles end true h = (law (phase_between code roles budget old) 0 piece.name.now nr piece.fnr (piece_records piece)).0 h

    -- how far they went in chunks
    pub goes : FaultNumbersLaw → (roles : Roles) (p : Phase) (end x : PieceEnd) → p ≡ phase_between code roles budget old → EndsAs end x →
        WentFar p of_plan (piece_end new end) end.is_stopped → GoesInChunks code roles budget piece old new x.is_stopped
    goes law roles p end x phase same went =
        let by_phase = subst (λ q. WentFar q of_plan (piece_end new end) end.is_stopped) phase went in
        let by_items = subst (λ items. WentFar (phase_between code roles budget old) items (piece_end new end) end.is_stopped) here by_phase in
        subst (GoesInChunks code roles budget piece old new) (sym same.stopped) (went_by law roles end end.is_stopped by_items)

-- records in order from a phase that is this one
pub order_at : (p q : Phase) (x : End Globals) (items : List Item) → p ≡ q → in_order p items ≡ x → in_order q items ≡ x
order_at p q x items same ends = ap (λ (r : Phase). in_order r items) (sym same) ∙ ends
