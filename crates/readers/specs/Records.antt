-- What reading the parts of a sheet gives, in the words of its fields.
use Rattle.std.specs.Prelude.{◌≡◌, ℕ, ◌+◌, ◌*◌, ◌<◌, ◌≤◌, List, IfOk, Result, MatchResult, slice_index}
use Rattle.weights.specs.declared.weight.Weight.{Ghosts}
use Rattle.plans.specs.declared.plan.Link.{Link}
use Rattle.plans.specs.Calls.{most_units, most_links, most_total}
use Rattle.plans.specs.Model.{amount_of}
use Rattle.plans.specs.Sound.{Joins}
use Rattle.sheets.specs.declared.fault.Fault.{Fault}
use Rattle.sheets.specs.Fields.{Field, bytes_at, four_at, issue_in, units_in, links_in, link_place, number_place, weight_in, amount_in, total_in}
use Rattle.sheets.specs.Faults.{Faultless, FirstIn}
use Rattle.sheets.specs.Format.{bytes_of_head, link_bytes, link_size, fours}
use Rattle.readers.specs.declared.cursor.Cursor.{Cursor}
use Rattle.readers.specs.declared.head.Head.{Head}
use Rattle.readers.specs.Steps.{Stands}

module _ {W : Type 0} (g : Ghosts W) (bs : List ℕ) where
  -- Some fields were read, one after the other: none has a fault, the value is as P says and the cursor stands at `at`;
  -- or the first fault of these fields.
  pub record Reads {X : Type 0} (fs : List Field) (r : Result X Fault) (after : Cursor) (at : ℕ) (P : X → Type 0) : Type 0 where
    pub taken : MatchResult r (λ x. Faultless g bs fs × P x) (λ e. FirstIn g bs fs e)
    pub moved : IfOk r (λ _. Stands bs at after)

  -- the head as the bytes have it
  pub record Headed (h : Head) : Type 0 where
    pub issue : h.issue ≡ issue_in bs
    pub units : h.units ≡ units_in bs
    pub links : h.links ≡ links_in bs
    pub few : h.units ≤ most_units
    pub short : h.links ≤ most_links
    pub bytes : bytes_at bs 0 9 ≡ bytes_of_head g h.issue h.units h.links

  -- the first n numbers of link k's weight as the bytes have them
  pub record Numbers (k n : ℕ) (parts : List ℕ) : Type 0 where
    pub values : (i : ℕ) → i < n → slice_index parts i ≡ four_at bs (number_place g bs k i)
    pub bytes : bytes_at bs (number_place g bs k 0) (4 * n) ≡ fours (λ i. four_at bs (number_place g bs k i)) n

  -- the weight of link k as the bytes have it
  pub record Weighed (k : ℕ) (w : W) : Type 0 where
    pub value : g.value w ≡ weight_in g bs k
    pub some : 0 < amount_of g w
    pub limited : total_in g bs k + amount_of g w ≤ most_total
    pub bytes : bytes_at bs (number_place g bs k 0) (4 * g.PARTS) ≡ fours (g.nth (g.value w)) g.PARTS

  -- link k as the bytes have it
  pub record Linked (k : ℕ) (l : Link W) : Type 0 where
    pub joins : Joins g (units_in bs) l
    pub amount : amount_of g l.weight ≡ amount_in g bs k
    pub limited : total_in g bs k + amount_of g l.weight ≤ most_total
    pub bytes : bytes_at bs (link_place g bs k) (link_size g) ≡ link_bytes g l
