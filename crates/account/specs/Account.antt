-- Document 01, "The account": what it keeps, and what each change makes of it before its release.
use Rattle.std.specs.Prelude.{Bool, true, false, not, cond, ◌||◌, List, map, ℕ, ◌+◌, max, leb, eqb, get_or, set, replicate}
use Rattle.laws.specs.Lists.{sum_of}
use Rattle.rows.specs.declared.Terms.{Terms}
use Rattle.rows.specs.Numbers.{queues, unit, length_meant}
use Rattle.fractions.specs.Fraction.{Fraction, whole, nothing, ◌⊕◌, minus, portion, at_most, ceiling_of}
use Rattle.account.specs.Changes.{Change, begins, joins, leaves, lengthens, returns}

-- A queue that is present: its weight, its account in ticks, whether it is going; of its open request the length and the ticks served, the
-- length of its next one, and the longest that it has opened since it last joined. A going queue's request is not read again.
pub record Queue : Type 0 where
  pub weight : ℕ
  pub owed : Fraction
  pub going : Bool
  pub length : ℕ
  pub served : ℕ
  pub next : ℕ
  pub longest : ℕ

pub data Entry : Type 0 where
  absent : Entry
  present : Queue → Entry

-- one entry for each queue number, and V; and the terms of the run, which say what a length of 0 stands for
pub record Account : Type 0 where
  pub entries : List Entry
  pub virtual : Fraction
  pub terms : Terms

unfoldable pub entry : Account → ℕ → Entry
entry a i = get_or a.entries i absent

abbrev pub is_absent : Entry → Bool
is_absent absent = true
is_absent (present q) = false

abbrev pub is_going : Entry → Bool
is_going absent = false
is_going (present q) = q.going

abbrev pub is_asking : Entry → Bool
is_asking absent = false
is_asking (present q) = not q.going

abbrev pub weight_of : Entry → ℕ
weight_of absent = 0
weight_of (present q) = q.weight

abbrev pub owed_to : Entry → Fraction
owed_to absent = nothing
owed_to (present q) = q.owed

-- W
unfoldable pub weight_in : List Entry → ℕ
weight_in entries = sum_of weight_of entries

unfoldable pub is_empty : Account → Bool
is_empty a = eqb (weight_in a.entries) 0

-- an entry with the account changed by so much
abbrev pub credited : Entry → Fraction → Entry
credited absent f = absent
credited (present q) f =
    present
    (record {
      weight = q.weight;
      owed = q.owed ⊕ f;
      going = q.going;
      length = q.length;
      served = q.served;
      next = q.next;
      longest = q.longest;
    })

-- "every row not free gains" so many ticks "x weight / W"
unfoldable pub gaining : Fraction → ℕ → Entry → Entry
gaining ticks total e = credited e (portion ticks (weight_of e) total)

unfoldable pub all_gain : Fraction → ℕ → List Entry → List Entry
all_gain ticks total entries = map (gaining ticks total) entries

-- "If the request is used up or ended early, the next opens"; else the open one has so many ticks more
abbrev pub reopened : Queue → Queue
reopened q =
    record {
      weight = q.weight;
      owed = q.owed;
      going = q.going;
      length = q.next;
      served = 0;
      next = q.next;
      longest = max q.longest q.next;
    }

abbrev pub served_more : Queue → ℕ → Queue
served_more q used =
    record {
      weight = q.weight;
      owed = q.owed;
      going = q.going;
      length = q.length;
      served = q.served + used;
      next = q.next;
      longest = q.longest;
    }

abbrev pub requested : Queue → ℕ → Bool → Queue
requested q used early = cond (early || leb q.length (q.served + used)) (reopened q) (served_more q used)

-- "and the holder loses u"
abbrev pub charged : Entry → ℕ → Bool → Entry
charged absent used early = absent
charged (present q) used early = credited (present (requested q used early)) (minus (whole used))

-- "At a return of u ticks every row not free gains u x weight / W, and the holder loses u."
-- "V in the account rises by 720,720 u / W"
unfoldable pub returned : Account → ℕ → ℕ → Bool → Account
returned a queue used early =
    let W : ℕ = weight_in a.entries in
    let gained : List Entry = all_gain (whole used) W a.entries in
    record {
      entries = set gained queue (charged (get_or gained queue absent) used early);
      virtual = a.virtual ⊕ portion (whole used) unit W;
      terms = a.terms;
    }

-- what a departure passes on: "When a row with account a is freed and others remain"
unfoldable pub passed_on : Fraction → ℕ → Fraction
passed_on owed left = cond (eqb left 0) nothing owed

-- those who stay, and "W less the freed weight"
unfoldable pub rest : Account → ℕ → List Entry
rest a i = set a.entries i absent

unfoldable pub weight_left : Account → ℕ → ℕ
weight_left a i = weight_in (rest a i)

-- "each gains a x its weight / (W less the freed weight)"; V rises "by 720,720 a / (W left)"
unfoldable pub freed : Account → ℕ → Account
freed a i =
    let left : ℕ = weight_left a i in
    let passed : Fraction = passed_on (owed_to (entry a i)) left in
    record { entries = all_gain passed left (rest a i); virtual = a.virtual ⊕ portion passed unit left; terms = a.terms }

-- "account 0 or more"
unfoldable pub settled : Entry → Bool
settled e = at_most nothing (owed_to e)

abbrev pub going_away : Entry → Entry
going_away absent = absent
going_away (present q) =
    present
    (record {
      weight = q.weight;
      owed = q.owed;
      going = true;
      length = q.length;
      served = q.served;
      next = q.next;
      longest = q.longest;
    })

-- "The account decides for itself who is freed: a queue at its accepted leave or reweight with account 0 or more"; else it is going
unfoldable pub left : Account → ℕ → Account
left a queue =
    cond (settled (entry a queue)) (freed a queue)
    (record { entries = set a.entries queue (going_away (entry a queue)); virtual = a.virtual; terms = a.terms })

-- a queue that opens its first request
unfoldable pub newcomer : ℕ → ℕ → Fraction → Entry
newcomer weight length owed =
    present
    (record {
      weight = weight;
      owed = owed;
      going = false;
      length = length;
      served = 0;
      next = length;
      longest = length;
    })

-- "When a queue of weight w enters at c while others are present, its opening account is -w(c - V)/720,720, and then every row, the newcomer
-- too, gains its weight / (new W) times w(c - V)/720,720." V rises "by w(c - V)/(new W)".
unfoldable pub entered_beside : Account → ℕ → ℕ → ℕ → Account
entered_beside a queue weight length =
    let above : Fraction = whole (ceiling_of a.virtual) ⊕ minus a.virtual in
    let gap : Fraction = portion above weight unit in
    let with_newcomer : List Entry = set a.entries queue (newcomer weight length (minus gap)) in
    let W : ℕ = weight_in with_newcomer in
    record { entries = all_gain gap W with_newcomer; virtual = a.virtual ⊕ portion above weight W; terms = a.terms }

-- "Into an empty table it enters with account 0." V is as the last one to leave left it: T-02 has one V for the whole run.
unfoldable pub entered_alone : Account → ℕ → ℕ → ℕ → Account
entered_alone a queue weight length = record { entries = set a.entries queue (newcomer weight length nothing); virtual = a.virtual; terms = a.terms }

unfoldable pub entered : Account → ℕ → ℕ → ℕ → Account
entered a queue weight length = cond (is_empty a) (entered_alone a queue weight length) (entered_beside a queue weight length)

-- "Length. Sets the length of the next request."
abbrev pub next_set : Entry → ℕ → Entry
next_set absent length = absent
next_set (present q) length =
    present
    (record {
      weight = q.weight;
      owed = q.owed;
      going = q.going;
      length = q.length;
      served = q.served;
      next = length;
      longest = q.longest;
    })

unfoldable pub lengthened : Account → ℕ → ℕ → Account
lengthened a queue length = record { entries = set a.entries queue (next_set (entry a queue) length); virtual = a.virtual; terms = a.terms }

unfoldable pub no_one : Terms → Account
no_one terms = record { entries = replicate queues absent; virtual = nothing; terms = terms }

-- a change, before its release
abbrev pub made : Account → Change → Account
made a (begins terms) = no_one terms
made a (joins queue weight length) = entered a queue weight (length_meant a.terms length)
made a (leaves queue) = left a queue
made a (lengthens queue length) = lengthened a queue (length_meant a.terms length)
made a (returns queue used early) = returned a queue used early
