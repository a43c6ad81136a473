-- One step of the machine. A line met backward acts as its turned line acts forward.
use Rattle.std.specs.Prelude.{ℕ, zero, suc, ◌+◌, ◌-◌, Bool, false, cond, not, ◌&&◌, List, [], ◌∷◌, ◌++◌, length, take, ℤ, pos, ◌+ℤ◌, ◌-ℤ◌, Ok, Err, Result, ◌==◌, bit_xor, nat_le, nat_lt, slice_index_or, slice_set}
use Rattle.rules.specs.Answer.{◌>>=◌, need}
use Rattle.rules.specs.Kinds.{code}
use Rattle.rules.specs.Word.{eq_z, holds, word, on_bits}
use Rattle.rules.specs.Book.{record_at, named, clear}
use Rattle.rules.specs.Script.{is_none, Script, line_at, turned_kind, partner, where_is, terms_of}
use Rattle.rules.specs.Expression.{worked}
use Rattle.rules.specs.declared.Kind.TheVariants.{Begin, End, Uncall}
use Rattle.rules.specs.declared.Place.{Place}
use Rattle.rules.specs.declared.Place.TheVariants.{None, M, R, N, F, V}
use Rattle.rules.specs.declared.Line.{Line}
use Rattle.rules.specs.declared.Frame.{Frame}
use Rattle.rules.specs.declared.Spot.{Spot}
use Rattle.rules.specs.declared.Spot.TheVariants.{InBook, InLocals}
use Rattle.rules.specs.declared.Refusal.{Refusal}
use Rattle.rules.specs.declared.Refusal.TheVariants.{Changed, FreeUnfit, NoFree, NoRecord, NotClear, TestFailed, TooDeep, Unknown, Unpaired}

-- position p stands before line p; the present record is 0 for none; the open locals of all frames, the first opened first
pub record State : Type 0 where
  pub position : ℕ
  pub forward : Bool
  pub present : ℕ
  pub locals : List ℤ
  pub frames : List Frame
  pub book : List ℤ

-- the line whose turn it is, and the position past a line
abbrev pub turn_of : State → ℕ
turn_of s = cond s.forward s.position (s.position - 1)

abbrev pub past : Bool → ℕ → ℕ
past forward l = cond forward (suc l) l

-- the kind as it is met in this direction
abbrev pub met : Bool → ℕ → ℕ
met forward kind = cond forward kind (turned_kind kind)

-- ---- places

-- the first local of the present frame
abbrev pub base : List Frame → ℕ
base [] = 0
base (f ∷ fs) = f.count

-- whether a spot lies in record k
abbrev pub inside : Spot → ℕ → Bool
inside (InBook w) k = nat_le (record_at k) w && nat_lt w (record_at k + 8)
inside (InLocals i) k = false

abbrev pub in_record : ℕ → ℕ → Result Spot Refusal
in_record zero i = Err NoRecord
in_record (suc k) i = Ok (InBook (record_at (suc k) + i))

abbrev pub found : ℕ → ℕ → Place → Result Spot Refusal
found present base None = Err NoRecord
found present base (M i) = Ok (InBook i)
found present base (R i) = Ok (InBook (64 + i))
found present base (N i) = in_record present i
found present base (F i) = in_record present (4 + i)
found present base (V i) = Ok (InLocals (base + i))

abbrev pub find : State → Place → Result Spot Refusal
find s = found s.present (base s.frames)

abbrev pub read : State → Spot → ℤ
read s (InBook w) = slice_index_or s.book w (pos 0)
read s (InLocals i) = slice_index_or s.locals i (pos 0)

abbrev pub see : State → Place → Result ℤ Refusal
see s p = find s p >>= λ w. Ok (read s w)

-- ---- changes of the state

abbrev pub go_to : ℕ → State → State
go_to p s = record { position = p; forward = s.forward; present = s.present; locals = s.locals; frames = s.frames; book = s.book }

abbrev pub with_book : List ℤ → State → State
with_book b s = record { position = s.position; forward = s.forward; present = s.present; locals = s.locals; frames = s.frames; book = b }

abbrev pub with_locals : List ℤ → State → State
with_locals ls s = record { position = s.position; forward = s.forward; present = s.present; locals = ls; frames = s.frames; book = s.book }

abbrev pub put_book : Spot → ℤ → List ℤ → List ℤ
put_book (InBook w) v b = slice_set b w v
put_book (InLocals i) v b = b

abbrev pub put_locals : Spot → ℤ → List ℤ → List ℤ
put_locals (InBook w) v ls = ls
put_locals (InLocals i) v ls = slice_set ls i v

abbrev pub write : Spot → ℤ → State → State
write u v s = record { position = s.position; forward = s.forward; present = s.present; locals = put_locals u v s.locals; frames = s.frames; book = put_book u v s.book }

-- past line l, in the direction of the state
abbrev pub go : ℕ → State → Result State Refusal
go l s = Ok (go_to (past s.forward l) s)

-- ---- the kinds

module _ (sc : Script) where
  abbrev pub value : State → ℕ → Result ℤ Refusal
  value s l = worked (see s) (terms_of sc.terms (line_at sc.lines l)) []

  -- where method q is entered in this direction: after its begin, or before its end
  abbrev pub entry : Bool → ℕ → ℕ
  entry forward q = past forward (where_is (met forward (code Begin)) q sc.lines)

-- the record that a call on y makes the present one
abbrev pub callee : State → Place → Result ℕ Refusal
callee s y = cond (is_none y) (Ok s.present) do
  u ← find s y
  let k = named s.book (read s u)
  _ ← need (nat_lt 0 k) NoRecord
  Ok k

-- y, if named, holds record k
abbrev pub holding : State → Place → ℕ → Result (Unit {0}) Refusal
holding s y k = cond (is_none y) (Ok tt) do
  u ← find s y
  need (eq_z (read s u) (pos k)) Changed

-- the direction on the other side of a call or uncall line
abbrev pub across : ℕ → Bool → Bool
across kind forward = cond (kind == code Uncall) (not forward) forward

-- the state of the caller, past the call in its direction
abbrev pub caller : Script → Frame → List Frame → State → State
caller sc f fs s =
    let forward = across (line_at sc.lines f.line).kind s.forward in
    record {
      position = past forward f.line;
      forward = forward;
      present = f.former;
      locals = s.locals;
      frames = fs;
      book = s.book;
    }

-- ---- what line l does in a state, with its places and values in hand

module _ (l : ℕ) (s : State) where
  -- add, subtract, xor
  abbrev pub changing : (ℤ → ℤ → ℤ) → Place → ℤ → Result State Refusal
  changing f p e = do
    x ← find s p
    go l (write x (f (read s x) e) s)

  abbrev pub opening : ℤ → Result State Refusal
  opening e = go l (with_locals (s.locals ++ (e ∷ [])) s)

  abbrev pub closing : ℤ → Result State Refusal
  closing e = do
    _ ← need (eq_z (slice_index_or s.locals (length s.locals - 1) (pos 0)) e) TestFailed
    go l (with_locals (take (length s.locals - 1) s.locals) s)

  abbrev pub allocating : Place → Result State Refusal
  allocating p = do
    x ← find s p
    _ ← need (eq_z (read s x) (pos 0)) NotClear
    _ ← need (not (eq_z (slice_index_or s.book 0 (pos 0)) (pos 0))) NoFree
    let k = named s.book (slice_index_or s.book 0 (pos 0))
    _ ← need (nat_lt 0 k && (not (inside x k) && clear s.book 7 k)) FreeUnfit
    go l (write x (pos k) (with_book (slice_set (slice_set s.book 0 (slice_index_or s.book (record_at k + 7) (pos 0))) (record_at k + 7) (pos 0)) s))

  abbrev pub freeing : Place → Result State Refusal
  freeing p = do
    x ← find s p
    let k = named s.book (read s x)
    _ ← need (nat_lt 0 k) NoRecord
    _ ← need (clear s.book 8 k) NotClear
    go l (write x (pos 0) (with_book (slice_set (slice_set s.book (record_at k + 7) (slice_index_or s.book 0 (pos 0))) 0 (pos k)) s))

  abbrev pub copying : Place → Place → Result State Refusal
  copying p q = do
    x ← find s p
    y ← find s q
    _ ← need (eq_z (read s y) (pos 0)) NotClear
    go l (write y (read s x) s)

  abbrev pub uncopying : Place → Place → Result State Refusal
  uncopying p q = do
    x ← find s p
    y ← find s q
    _ ← need (eq_z (read s y) (read s x)) NotClear
    go l (write y (pos 0) s)

  abbrev pub swapping : Place → Place → Result State Refusal
  swapping p q = do
    x ← find s p
    y ← find s q
    go l (write y (read s x) (write x (read s y) s))

  -- into a method that is entered there, in this direction, on y
  abbrev pub entering : ℕ → Bool → Place → Result State Refusal
  entering there forward y = do
    _ ← need (nat_lt (length s.frames) 64) TooDeep
    k ← callee s y
    Ok (record {
      position = there;
      forward = forward;
      present = k;
      locals = s.locals;
      frames = record { line = l; former = s.present; count = length s.locals } ∷ s.frames;
      book = s.book;
    })

module _ (sc : Script) (l : ℕ) (s : State) where
  abbrev pub line : Line
  line = line_at sc.lines l

  abbrev pub mate : ℕ
  mate = partner sc.lines l

  abbrev pub changed : (ℤ → ℤ → ℤ) → Result State Refusal
  changed f = value sc s l >>= changing l s f line.x

  -- if and until: true goes past the line itself; otherwise the other test must be false, and it goes past the other line
  abbrev pub branched : Result State Refusal
  branched = do
    e ← value sc s l
    cond (holds e) (go l s) do
      o ← value sc s mate
      _ ← need (not (holds o)) TestFailed
      go mate s

  -- fi and from
  abbrev pub asserted : Result State Refusal
  asserted = do
    e ← value sc s l
    _ ← need (holds e) TestFailed
    go l s

  abbrev pub opened : Result State Refusal
  opened = do
    _ ← need (nat_lt (length s.locals) 256) TooDeep
    value sc s l >>= opening l s

  abbrev pub closed : Result State Refusal
  closed = value sc s l >>= closing l s

  abbrev pub allocated : Result State Refusal
  allocated = allocating l s line.x

  abbrev pub freed : Result State Refusal
  freed = freeing l s line.x

  abbrev pub copied : Result State Refusal
  copied = copying l s line.x line.y

  abbrev pub uncopied : Result State Refusal
  uncopied = uncopying l s line.x line.y

  abbrev pub swapped : Result State Refusal
  swapped = swapping l s line.x line.y

  -- call, and uncall with the direction reversed
  abbrev pub entered : Bool → Result State Refusal
  entered forward = entering l s (entry sc forward line.q) forward line.y

  -- back to the caller, whose y, if named, must still hold the present record
  abbrev pub left : Frame → List Frame → Result State Refusal
  left f fs = do
    let c = caller sc f fs s
    _ ← holding c (line_at sc.lines f.line).y s.present
    Ok c

  abbrev pub returned : List Frame → Result State Refusal
  returned [] = Err Unpaired
  returned (f ∷ fs) = left f fs

-- what a line of each kind does, in the order of the kinds: begin, end; add, subtract; if, fi, from, until; local, delocal;
-- new, delete; copy, uncopy; xor; swap; call, uncall. A begin is never met forward, nor an end backward.
abbrev pub rules : List (Script → ℕ → State → Result State Refusal)
rules =
    (λ sc l s. Err Unpaired)
    ∷ (λ sc l s. returned sc l s s.frames)
    ∷ (λ sc l s. changed sc l s (λ a b. word (a +ℤ b)))
    ∷ (λ sc l s. changed sc l s (λ a b. word (a -ℤ b)))
    ∷ branched
    ∷ asserted
    ∷ asserted
    ∷ branched
    ∷ opened
    ∷ closed
    ∷ allocated
    ∷ freed
    ∷ copied
    ∷ uncopied
    ∷ (λ sc l s. changed sc l s (on_bits bit_xor))
    ∷ swapped
    ∷ (λ sc l s. entered sc l s s.forward)
    ∷ (λ sc l s. entered sc l s (not s.forward))
    ∷ []

-- the kind of the line whose turn it is, as it is met
abbrev pub kind_met : Script → State → ℕ
kind_met sc s = met s.forward (line_at sc.lines (turn_of s)).kind

-- what a line of this kind does; one of no kind is refused
abbrev pub rule : ℕ → Script → ℕ → State → Result State Refusal
rule kind = slice_index_or rules kind (λ _ _ _. Err Unknown)

unfoldable pub step : Script → State → Result State Refusal
step sc s = rule (kind_met sc s) sc (turn_of s) s

-- an end is met forward or a begin backward, with no frame
abbrev pub finished : Script → State → Bool
finished sc s = kind_met sc s == code End && length s.frames == 0

-- the same state, facing the other way
abbrev pub flipped : State → State
flipped s = record { position = s.position; forward = not s.forward; present = s.present; locals = s.locals; frames = s.frames; book = s.book }
