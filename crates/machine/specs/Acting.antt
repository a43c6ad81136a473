-- A step as the code takes it: the values of the tests first, then one choice by the kind of the line, the direction and the values.
use Rattle.std.specs.Prelude.{◌≡◌, ℕ, ◌-◌, ◌<◌, Bool, true, false, cond, not, ◌||◌, List, [], ◌∷◌, reverse, length, take, ℤ, pos, ◌+ℤ◌, ◌-ℤ◌, Some, None, Ok, Err, Option, Result, ◌==◌, bit_xor, nat_lt}
use Rattle.rules.specs.declared.Refusal.{Refusal}
use Rattle.rules.specs.declared.Refusal.TheVariants.{TestFailed, TooDeep, Unknown, Unpaired}
use Rattle.rules.specs.declared.Kind.{Kind}
use Rattle.rules.specs.declared.Kind.TheVariants.{Begin, End, Add, Subtract, If, Fi, From, Until, Local, Delocal, New, Delete, Copy, Uncopy, Xor, Swap, Call, Uncall}
use Rattle.rules.specs.declared.Frame.{Frame}
use Rattle.rules.specs.Answer.{◌>>=◌, need}
use Rattle.rules.specs.Kinds.{code}
use Rattle.rules.specs.Word.{word, on_bits, holds}
use Rattle.rules.specs.Script.{Script, line_at, partner}
use Rattle.rules.specs.Check.{form_of}
use Rattle.rules.specs.Step.{State, turn_of, value, entry, go, changing, opening, closing, allocating, freeing, copying, uncopying, swapping, entering, returned}
use Rattle.work.specs.declared.parts.Work.{Work}
use Rattle.machine.specs.declared.due.Due.{Due}
use Rattle.machine.specs.declared.changes.Change.{Change}
use Rattle.machine.specs.declared.changes.Change.TheVariants.{Raise, Lower, Mix}
use Rattle.machine.specs.Steps.{Made}

-- r is the line whose turn it is; where no line has the turn, or one of no kind, it is unknown
abbrev pub IsDue : Script → State → Result Due Refusal → Type 0
IsDue sc s (Ok d) = (d.number ≡ turn_of s) × (d.line ≡ line_at sc.lines (turn_of s)) × (code d.kind ≡ (line_at sc.lines (turn_of s)).kind)
IsDue sc s (Err f) = (f ≡ Unknown) × (17 < (line_at sc.lines (turn_of s)).kind)

-- ---- what the lines do, each under a name that stays shut where a step chooses among them

-- what add, subtract and xor make of a word and the value of an expression
abbrev pub changed_by : Change → ℤ → ℤ → ℤ
changed_by Raise v e = word (v +ℤ e)
changed_by Lower v e = word (v -ℤ e)
changed_by Mix v e = on_bits bit_xor v e

module _ (d : Due) (s : State) where
  unfoldable pub changes : Change → ℤ → Result State Refusal
  changes c e = changing d.number s (changed_by c) d.line.x e

  -- if there is room
  unfoldable pub opens : ℤ → Result State Refusal
  opens e = do
    _ ← need (nat_lt (length s.locals) 256) TooDeep
    opening d.number s e

  unfoldable pub closes : ℤ → Result State Refusal
  closes e = closing d.number s e

  unfoldable pub allocates : Result State Refusal
  allocates = allocating d.number s d.line.x

  unfoldable pub releases : Result State Refusal
  releases = freeing d.number s d.line.x

  unfoldable pub duplicates : Result State Refusal
  duplicates = copying d.number s d.line.x d.line.y

  unfoldable pub erases : Result State Refusal
  erases = uncopying d.number s d.line.x d.line.y

  unfoldable pub exchanges : Result State Refusal
  exchanges = swapping d.number s d.line.x d.line.y

unfoldable pub enters : Script → Due → State → Bool → Result State Refusal
enters sc d s forward = entering d.number s (entry sc forward d.line.q) forward d.line.y

unfoldable pub comes_back : Script → State → Result State Refusal
comes_back sc s = returned sc 0 s s.frames

-- ---- frames

-- a frame more, for a call at line l, and record k present
abbrev pub framed : ℕ → ℕ → State → State
framed l k s =
    record {
      position = s.position;
      forward = s.forward;
      present = k;
      locals = s.locals;
      frames = record { line = l; former = s.present; count = length s.locals } ∷ s.frames;
      book = s.book;
    }

-- the frames below the top one
abbrev pub under : Work → List Frame
under w = reverse (take (length w.frames.items - 1) w.frames.items)

abbrev pub Top : Option Frame → Work → Type 0
Top None w = reverse w.frames.items ≡ []
Top (Some f) w = reverse w.frames.items ≡ f ∷ under w

-- the caller's record and frames, all else as it is
abbrev pub back_in : ℕ → List Frame → State → State
back_in former fs s =
    record { position = s.position; forward = s.forward; present = former; locals = s.locals; frames = fs; book = s.book }

-- ---- the choice

-- the value of the line's own expression, 0 for a kind without one; a local must have room first
abbrev pub own_value : ℕ → Script → ℕ → State → Result ℤ Refusal
own_value kind sc l s =
    cond (form_of kind).expression
    (cond (kind == code Local) (cond (nat_lt (length s.locals) 256) (value sc s l) (Err TooDeep)) (value sc s l))
    (Ok (pos 0))

-- if and until ask the other line of the pair too, where their own test is false
abbrev pub far_value : ℕ → Script → ℕ → State → ℤ → Result ℤ Refusal
far_value kind sc l s own =
    cond (kind == code If || kind == code Until) (cond (holds own) (Ok (pos 0)) (value sc s (partner sc.lines l))) (Ok (pos 0))

-- fi and from
abbrev pub asserting : ℕ → State → ℤ → Result State Refusal
asserting l s own = cond (holds own) (go l s) (Err TestFailed)

-- if and until
abbrev pub branching : Script → ℕ → State → ℤ → ℤ → Result State Refusal
branching sc l s own far = cond (holds own) (go l s) (cond (holds far) (Err TestFailed) (go (partner sc.lines l) s))

-- what a line of this kind does, met forward or backward, with its values in hand
abbrev pub acting_as : Kind → Bool → Script → Due → State → ℤ → ℤ → Result State Refusal
acting_as Begin true sc d s own far = Err Unpaired
acting_as Begin false sc d s own far = comes_back sc s
acting_as End true sc d s own far = comes_back sc s
acting_as End false sc d s own far = Err Unpaired
acting_as Add true sc d s own far = changes d s Raise own
acting_as Add false sc d s own far = changes d s Lower own
acting_as Subtract true sc d s own far = changes d s Lower own
acting_as Subtract false sc d s own far = changes d s Raise own
acting_as If true sc d s own far = branching sc d.number s own far
acting_as If false sc d s own far = asserting d.number s own
acting_as Fi true sc d s own far = asserting d.number s own
acting_as Fi false sc d s own far = branching sc d.number s own far
acting_as From true sc d s own far = asserting d.number s own
acting_as From false sc d s own far = branching sc d.number s own far
acting_as Until true sc d s own far = branching sc d.number s own far
acting_as Until false sc d s own far = asserting d.number s own
acting_as Local true sc d s own far = opens d s own
acting_as Local false sc d s own far = closes d s own
acting_as Delocal true sc d s own far = closes d s own
acting_as Delocal false sc d s own far = opens d s own
acting_as New true sc d s own far = allocates d s
acting_as New false sc d s own far = releases d s
acting_as Delete true sc d s own far = releases d s
acting_as Delete false sc d s own far = allocates d s
acting_as Copy true sc d s own far = duplicates d s
acting_as Copy false sc d s own far = erases d s
acting_as Uncopy true sc d s own far = erases d s
acting_as Uncopy false sc d s own far = duplicates d s
acting_as Xor forward sc d s own far = changes d s Mix own
acting_as Swap forward sc d s own far = exchanges d s
acting_as Call forward sc d s own far = enters sc d s s.forward
acting_as Uncall forward sc d s own far = enters sc d s (not s.forward)

abbrev pub acting : Script → Due → State → ℤ → ℤ → Result State Refusal
acting sc d s own far = acting_as d.kind s.forward sc d s own far

-- what a line has done: a record, which stays shut where a step chooses among many ways to it
pub record Acted (r : Result (Unit {0}) Refusal) (w : Work) (b : List ℤ) (w' : Work) (b' : List ℤ) (sc : Script) (d : Due) (own far : ℤ) : Type 0 where
  pub made : Made r w b w' b' (λ s. acting sc d s own far)
