-- Worked states of D-ARC: each a list of calls, its answers, and what is left, lists and p included; a table and one theorem, by computation.
-- Fingerprints and blocks are labels, as in the paper's Worked: the content k is the number k, and it is its own fingerprint. Assumes nothing.
use Rattle.std.specs.Prelude.{◌≡◌, refl, true, false, List, [], ◌∷◌, map, ℕ, ◌+◌, length, replicate}
use Rattle.paper.specs.Cache.{AddressRow, Box, Outcome, newest, block_row, before, Call, read, look, flush, fresh}
use Rattle.paper.specs.Cache.{Word, hit, miss, same_block, new_block, from_cache, from_disk, done}
use Rattle.paper.specs.Cache.{freed, oldest_unknown, taken_used, stored, if_cached, answer, dropped, write_invalidate, look_as, flushed}
use Rattle.paper.specs.Worked.{labels, Said}
use Rattle.paper.specs.Cache.{no_counts}
use Rattle.paper.specs.Batch.{start, blocks_in}
use Rattle.arc.specs.Policy.{serve_by, answered_by, read_by, through_by, back_by}
use Rattle.arc.specs.Folder.{FolderBy, folder_read, folder}
use Rattle.arc.specs.Arc.{Sizes, Lists, no_lists, arc, list_of, new_p, takes_t1, top_rows, row_out, evicted, room_in_b, replace, manage, check, has_row}
use Rattle.arc.specs.Arc.{cleared, taken_by, stored_in, block_newest, inserted, parted, checked, to_t2, joined, arc_step_as, arc_step}

abbrev says : Call ℕ → Word → ℕ → ℕ → Said
says c w f p = record { call = c; word = w; flash_writes = f; primary_writes = p }

-- A held row: address and content, clean or dirty, last written by no seat or by seat 0
abbrev clean : ℕ → ℕ → AddressRow ℕ
clean a k = newest a k false (0, 0)

abbrev dirty : ℕ → ℕ → AddressRow ℕ
dirty a k = newest a k true (0, 0)

-- The writes of a replay carry 0.
abbrev through : ℕ → ℕ → Call ℕ
through a k = Call.through a k (0, 0)

abbrev back : ℕ → ℕ → Call ℕ
back a k = Call.back a k (0, 0)

abbrev invalidate : ℕ → ℕ → Call ℕ
invalidate a k = Call.invalidate a k (0, 0)

abbrev lists : List ℕ → List ℕ → List ℕ → List ℕ → List ℕ → ℕ → Lists
lists t1 t2 b1 b2 b3 n = record { T1 = t1; T2 = t2; B1 = b1; B2 = b2; B3 = b3; p = n }

-- What a list of calls answers, the blocks that reads and looks returned, and the lists and the box after the last call
pub record State : Type 0 where
  pub said : List Said
  pub returned : List ℕ
  pub lists : Lists
  pub box : Box ℕ ℕ

-- C, X and the limit, the lists and the box before the first call, and what is seen
pub record Example : Type 0 where
  pub C : ℕ
  pub X : ℕ
  pub t : ℕ
  pub from : Lists
  pub over : Box ℕ ℕ
  pub seen : State

abbrev after : Call ℕ → Outcome ℕ ℕ → State → State
after c o t =
    record {
      said = says c o.word o.flash_writes o.primary_writes ∷ t.said;
      returned = before o.block t.returned;
      lists = t.lists;
      box = t.box;
    }

abbrev pub plays : Sizes → Lists → Box ℕ ℕ → List (Call ℕ) → State
plays Z l s [] = record { said = []; returned = []; lists = l; box = s }
plays Z l s (c ∷ cs) = let o = serve_by labels (arc labels Z) l s c in after c o.outcome (plays Z o.kept o.outcome.box cs)

abbrev pub play : Example → State
play e = plays (record { B = 1; P = length e.over.disk; C = e.C; X = e.X; label = []; t = e.t }) e.from e.over (map (λ x. x.call) e.seen.said)

abbrev new : ℕ → List ℕ → Box ℕ ℕ
new C disk = fresh C (replicate C 99) disk

abbrev pub table : List Example
table =
    -- a hit in T1 and one in T2
    record {
      C = 1;
      X = 0;
      t = 2;
      from = no_lists;
      over = new 1 (0 ∷ 1 ∷ 2 ∷ []);
      seen = record {
        said = says (read 0) miss 1 0 ∷ says (read 0) hit 0 0 ∷ says (read 0) hit 0 0 ∷ [];
        returned = 0 ∷ 0 ∷ 0 ∷ [];
        lists = lists ([]) (0 ∷ []) ([]) ([]) ([]) 0;
        box = record { rows = clean 0 0 ∷ []; free = []; used = block_row 0 0 ∷ []; flash = 0 ∷ []; disk = 0 ∷ 1 ∷ 2 ∷ [] };
      };
    }
    -- a new address, the loop once, T1 to B1
    ∷ record {
      C = 1;
      X = 0;
      t = 2;
      from = no_lists;
      over = new 1 (0 ∷ 1 ∷ 2 ∷ []);
      seen = record {
        said = says (read 0) miss 1 0 ∷ says (read 1) miss 1 0 ∷ [];
        returned = 0 ∷ 1 ∷ [];
        lists = lists (1 ∷ []) ([]) (0 ∷ []) ([]) ([]) 0;
        box = record { rows = clean 0 0 ∷ clean 1 1 ∷ []; free = []; used = block_row 1 0 ∷ []; flash = 1 ∷ []; disk = 0 ∷ 1 ∷ 2 ∷ [] };
      };
    }
    -- B1 and B2 would pass C: B1's oldest is evicted
    ∷ record {
      C = 1;
      X = 0;
      t = 2;
      from = no_lists;
      over = new 1 (0 ∷ 1 ∷ 2 ∷ []);
      seen = record {
        said = says (read 0) miss 1 0 ∷ says (read 1) miss 1 0 ∷ says (read 2) miss 1 0 ∷ [];
        returned = 0 ∷ 1 ∷ 2 ∷ [];
        lists = lists (2 ∷ []) ([]) (1 ∷ []) ([]) ([]) 0;
        box = record { rows = clean 1 1 ∷ clean 2 2 ∷ []; free = []; used = block_row 2 0 ∷ []; flash = 2 ∷ []; disk = 0 ∷ 1 ∷ 2 ∷ [] };
      };
    }
    -- B1 is empty: B2's oldest is evicted
    ∷ record {
      C = 1;
      X = 0;
      t = 2;
      from = no_lists;
      over = new 1 (0 ∷ 1 ∷ 2 ∷ []);
      seen = record {
        said = says (read 0) miss 1 0 ∷ says (read 0) hit 0 0 ∷ says (read 1) miss 1 0 ∷ says (read 2) miss 1 0 ∷ [];
        returned = 0 ∷ 0 ∷ 1 ∷ 2 ∷ [];
        lists = lists (2 ∷ []) ([]) (1 ∷ []) ([]) ([]) 0;
        box = record { rows = clean 1 1 ∷ clean 2 2 ∷ []; free = []; used = block_row 2 0 ∷ []; flash = 2 ∷ []; disk = 0 ∷ 1 ∷ 2 ∷ [] };
      };
    }
    -- a hit in B1 raises p to 1; the replacement would take from an empty T2
    ∷ record {
      C = 1;
      X = 0;
      t = 2;
      from = no_lists;
      over = new 1 (0 ∷ 1 ∷ 2 ∷ []);
      seen = record {
        said = says (read 0) miss 1 0 ∷ says (read 1) miss 1 0 ∷ says (read 0) miss 1 0 ∷ [];
        returned = 0 ∷ 1 ∷ 0 ∷ [];
        lists = lists ([]) (0 ∷ []) (1 ∷ []) ([]) ([]) 1;
        box = record { rows = clean 1 1 ∷ clean 0 0 ∷ []; free = []; used = block_row 0 0 ∷ []; flash = 0 ∷ []; disk = 0 ∷ 1 ∷ 2 ∷ [] };
      };
    }
    -- p stays at C
    ∷ record {
      C = 1;
      X = 0;
      t = 2;
      from = no_lists;
      over = new 1 (0 ∷ 1 ∷ 2 ∷ []);
      seen = record {
        said = says (read 0) miss 1 0 ∷ says (read 1) miss 1 0 ∷ says (read 0) miss 1 0 ∷ says (read 1) miss 1 0 ∷ [];
        returned = 0 ∷ 1 ∷ 0 ∷ 1 ∷ [];
        lists = lists ([]) (1 ∷ []) ([]) (0 ∷ []) ([]) 1;
        box = record { rows = clean 0 0 ∷ clean 1 1 ∷ []; free = []; used = block_row 1 0 ∷ []; flash = 1 ∷ []; disk = 0 ∷ 1 ∷ 2 ∷ [] };
      };
    }
    -- a hit in B2 lowers p
    ∷ record {
      C = 1;
      X = 0;
      t = 2;
      from = no_lists;
      over = new 1 (0 ∷ 1 ∷ 2 ∷ []);
      seen = record {
        said = says (read 0) miss 1 0 ∷ says (read 1) miss 1 0 ∷ says (read 0) miss 1 0 ∷ says (read 1) miss 1 0 ∷ says (read 0) miss 1 0 ∷ [];
        returned = 0 ∷ 1 ∷ 0 ∷ 1 ∷ 0 ∷ [];
        lists = lists ([]) (0 ∷ []) ([]) (1 ∷ []) ([]) 0;
        box = record { rows = clean 1 1 ∷ clean 0 0 ∷ []; free = []; used = block_row 0 0 ∷ []; flash = 0 ∷ []; disk = 0 ∷ 1 ∷ 2 ∷ [] };
      };
    }
    -- a hit in B2 at p 0
    ∷ record {
      C = 1;
      X = 0;
      t = 2;
      from = no_lists;
      over = new 1 (0 ∷ 1 ∷ 2 ∷ []);
      seen = record {
        said = says (read 0) miss 1 0 ∷ says (read 0) hit 0 0 ∷ says (read 1) miss 1 0 ∷ says (read 0) miss 1 0 ∷ [];
        returned = 0 ∷ 0 ∷ 1 ∷ 0 ∷ [];
        lists = lists ([]) (0 ∷ []) (1 ∷ []) ([]) ([]) 0;
        box = record { rows = clean 1 1 ∷ clean 0 0 ∷ []; free = []; used = block_row 0 0 ∷ []; flash = 0 ∷ []; disk = 0 ∷ 1 ∷ 2 ∷ [] };
      };
    }
    -- MANAGE's first way
    ∷ record {
      C = 1;
      X = 0;
      t = 2;
      from = no_lists;
      over = new 1 (0 ∷ 1 ∷ 2 ∷ []);
      seen = record {
        said = says (read 0) miss 1 0 ∷ says (read 1) miss 1 0 ∷ says (read 0) miss 1 0 ∷ says (through 2 0) same_block 0 1 ∷ [];
        returned = 0 ∷ 1 ∷ 0 ∷ [];
        lists = lists (2 ∷ []) ([]) ([]) (0 ∷ []) ([]) 1;
        box = record { rows = clean 0 0 ∷ clean 2 0 ∷ []; free = []; used = block_row 0 0 ∷ []; flash = 0 ∷ []; disk = 0 ∷ 1 ∷ 0 ∷ [] };
      };
    }
    -- MANAGE's second way
    ∷ record {
      C = 1;
      X = 0;
      t = 2;
      from = no_lists;
      over = new 1 (0 ∷ 1 ∷ 2 ∷ []);
      seen = record {
        said = says (read 0) miss 1 0 ∷ says (read 1) miss 1 0 ∷ says (through 2 1) same_block 0 1 ∷ [];
        returned = 0 ∷ 1 ∷ [];
        lists = lists (2 ∷ []) ([]) (1 ∷ []) ([]) ([]) 0;
        box = record { rows = clean 1 1 ∷ clean 2 1 ∷ []; free = []; used = block_row 1 0 ∷ []; flash = 1 ∷ []; disk = 0 ∷ 1 ∷ 1 ∷ [] };
      };
    }
    -- MANAGE's third way, B3's oldest evicted
    ∷ record {
      C = 1;
      X = 0;
      t = 2;
      from = no_lists;
      over = new 1 (0 ∷ 1 ∷ 2 ∷ []);
      seen = record {
        said = says (read 0) miss 1 0 ∷ says (through 1 0) same_block 0 1 ∷ [];
        returned = 0 ∷ [];
        lists = lists (1 ∷ []) ([]) ([]) ([]) ([]) 0;
        box = record { rows = clean 1 0 ∷ []; free = []; used = block_row 0 0 ∷ []; flash = 0 ∷ []; disk = 0 ∷ 0 ∷ 2 ∷ [] };
      };
    }
    -- a dirty one
    ∷ record {
      C = 1;
      X = 0;
      t = 2;
      from = no_lists;
      over = new 1 (0 ∷ 1 ∷ 2 ∷ []);
      seen = record {
        said = says (back 0 5) new_block 1 0 ∷ says (through 1 5) same_block 0 2 ∷ [];
        returned = [];
        lists = lists (1 ∷ []) ([]) ([]) ([]) ([]) 0;
        box = record { rows = clean 1 5 ∷ []; free = []; used = block_row 5 0 ∷ []; flash = 5 ∷ []; disk = 5 ∷ 5 ∷ 2 ∷ [] };
      };
    }
    -- MANAGE's last way, B2's oldest to B3
    ∷ record {
      C = 1;
      X = 0;
      t = 2;
      from = no_lists;
      over = new 1 (0 ∷ 1 ∷ 2 ∷ []);
      seen = record {
        said = says (read 0) miss 1 0 ∷ says (read 0) hit 0 0 ∷ says (read 1) miss 1 0 ∷ says (read 1) hit 0 0
            ∷ says (through 2 1) same_block 0 1 ∷ [];
        returned = 0 ∷ 0 ∷ 1 ∷ 1 ∷ [];
        lists = lists (2 ∷ []) ([]) ([]) (1 ∷ []) ([]) 0;
        box = record { rows = clean 1 1 ∷ clean 2 1 ∷ []; free = []; used = block_row 1 0 ∷ []; flash = 1 ∷ []; disk = 0 ∷ 1 ∷ 1 ∷ [] };
      };
    }
    -- MANAGE's last way, B1 and B2 below C
    ∷ record {
      C = 1;
      X = 0;
      t = 2;
      from = no_lists;
      over = new 1 (0 ∷ 1 ∷ 2 ∷ []);
      seen = record {
        said = says (read 0) miss 1 0 ∷ says (read 0) hit 0 0 ∷ says (through 1 0) same_block 0 1 ∷ [];
        returned = 0 ∷ 0 ∷ [];
        lists = lists (1 ∷ []) ([]) ([]) (0 ∷ []) ([]) 0;
        box = record { rows = clean 0 0 ∷ clean 1 0 ∷ []; free = []; used = block_row 0 0 ∷ []; flash = 0 ∷ []; disk = 0 ∷ 0 ∷ 2 ∷ [] };
      };
    }
    -- an address of B1 and one of B2 whose block is cached are hits
    ∷ record {
      C = 1;
      X = 0;
      t = 2;
      from = no_lists;
      over = new 1 (0 ∷ 1 ∷ 2 ∷ []);
      seen = record {
        said = says (read 0) miss 1 0 ∷ says (read 1) miss 1 0 ∷ says (through 1 0) new_block 1 1 ∷ says (read 0) hit 0 0 ∷ [];
        returned = 0 ∷ 1 ∷ 0 ∷ [];
        lists = lists ([]) (0 ∷ []) ([]) (1 ∷ []) ([]) 1;
        box = record { rows = clean 1 0 ∷ clean 0 0 ∷ []; free = []; used = block_row 0 0 ∷ []; flash = 0 ∷ []; disk = 0 ∷ 0 ∷ 2 ∷ [] };
      };
    }
    -- .. of B2
    ∷ record {
      C = 1;
      X = 0;
      t = 2;
      from = no_lists;
      over = new 1 (0 ∷ 1 ∷ 2 ∷ []);
      seen = record {
        said = says (read 0) miss 1 0 ∷ says (read 0) hit 0 0 ∷ says (through 1 0) same_block 0 1 ∷ says (read 0) hit 0 0 ∷ [];
        returned = 0 ∷ 0 ∷ 0 ∷ [];
        lists = lists ([]) (0 ∷ []) ([]) ([]) ([]) 0;
        box = record { rows = clean 0 0 ∷ []; free = []; used = block_row 0 0 ∷ []; flash = 0 ∷ []; disk = 0 ∷ 0 ∷ 2 ∷ [] };
      };
    }
    -- changed content of an address of T1, inserted
    ∷ record {
      C = 1;
      X = 0;
      t = 2;
      from = no_lists;
      over = new 1 (0 ∷ 1 ∷ 2 ∷ []);
      seen = record {
        said = says (read 0) miss 1 0 ∷ says (through 0 1) new_block 1 1 ∷ [];
        returned = 0 ∷ [];
        lists = lists ([]) (0 ∷ []) ([]) ([]) ([]) 0;
        box = record { rows = clean 0 1 ∷ []; free = []; used = block_row 1 0 ∷ []; flash = 1 ∷ []; disk = 1 ∷ 1 ∷ 2 ∷ [] };
      };
    }
    -- .. of T1, cached
    ∷ record {
      C = 2;
      X = 0;
      t = 4;
      from = no_lists;
      over = new 2 (0 ∷ 1 ∷ 2 ∷ 3 ∷ 4 ∷ []);
      seen = record {
        said = says (read 0) miss 1 0 ∷ says (read 1) miss 1 0 ∷ says (through 0 1) same_block 0 1 ∷ [];
        returned = 0 ∷ 1 ∷ [];
        lists = lists (1 ∷ []) (0 ∷ []) ([]) ([]) ([]) 0;
        box = record {
          rows = clean 1 1 ∷ clean 0 1 ∷ [];
          free = [];
          used = block_row 0 0 ∷ block_row 1 1 ∷ [];
          flash = 0 ∷ 1 ∷ [];
          disk = 1 ∷ 1 ∷ 2 ∷ 3 ∷ 4 ∷ [];
        };
      };
    }
    -- .. of T2
    ∷ record {
      C = 1;
      X = 0;
      t = 2;
      from = no_lists;
      over = new 1 (0 ∷ 1 ∷ 2 ∷ []);
      seen = record {
        said = says (read 0) miss 1 0 ∷ says (read 0) hit 0 0 ∷ says (through 0 1) new_block 1 1 ∷ [];
        returned = 0 ∷ 0 ∷ [];
        lists = lists ([]) (0 ∷ []) ([]) ([]) ([]) 0;
        box = record { rows = clean 0 1 ∷ []; free = []; used = block_row 1 0 ∷ []; flash = 1 ∷ []; disk = 1 ∷ 1 ∷ 2 ∷ [] };
      };
    }
    -- .. of B1
    ∷ record {
      C = 1;
      X = 0;
      t = 2;
      from = no_lists;
      over = new 1 (0 ∷ 1 ∷ 2 ∷ []);
      seen = record {
        said = says (read 0) miss 1 0 ∷ says (read 2) miss 1 0 ∷ says (through 0 1) new_block 1 1 ∷ [];
        returned = 0 ∷ 2 ∷ [];
        lists = lists ([]) (0 ∷ []) (2 ∷ []) ([]) ([]) 1;
        box = record { rows = clean 2 2 ∷ clean 0 1 ∷ []; free = []; used = block_row 1 0 ∷ []; flash = 1 ∷ []; disk = 1 ∷ 1 ∷ 2 ∷ [] };
      };
    }
    -- .. of B1, cached
    ∷ record {
      C = 1;
      X = 0;
      t = 2;
      from = no_lists;
      over = new 1 (0 ∷ 1 ∷ 2 ∷ []);
      seen = record {
        said = says (read 0) miss 1 0 ∷ says (read 1) miss 1 0 ∷ says (through 0 1) same_block 0 1 ∷ [];
        returned = 0 ∷ 1 ∷ [];
        lists = lists ([]) (0 ∷ []) ([]) ([]) ([]) 1;
        box = record { rows = clean 0 1 ∷ []; free = []; used = block_row 1 0 ∷ []; flash = 1 ∷ []; disk = 1 ∷ 1 ∷ 2 ∷ [] };
      };
    }
    -- .. of B2
    ∷ record {
      C = 1;
      X = 0;
      t = 2;
      from = no_lists;
      over = new 1 (0 ∷ 1 ∷ 2 ∷ []);
      seen = record {
        said = says (read 0) miss 1 0 ∷ says (read 0) hit 0 0 ∷ says (read 2) miss 1 0 ∷ says (through 0 1) new_block 1 1 ∷ [];
        returned = 0 ∷ 0 ∷ 2 ∷ [];
        lists = lists ([]) (0 ∷ []) (2 ∷ []) ([]) ([]) 0;
        box = record { rows = clean 2 2 ∷ clean 0 1 ∷ []; free = []; used = block_row 1 0 ∷ []; flash = 1 ∷ []; disk = 1 ∷ 1 ∷ 2 ∷ [] };
      };
    }
    -- a dirty block is taken
    ∷ record {
      C = 1;
      X = 0;
      t = 2;
      from = no_lists;
      over = new 1 (0 ∷ 1 ∷ 2 ∷ []);
      seen = record {
        said = says (back 0 5) new_block 1 0 ∷ says (read 1) miss 1 1 ∷ [];
        returned = 1 ∷ [];
        lists = lists (1 ∷ []) ([]) (0 ∷ []) ([]) ([]) 0;
        box = record { rows = clean 0 5 ∷ clean 1 1 ∷ []; free = []; used = block_row 1 0 ∷ []; flash = 1 ∷ []; disk = 5 ∷ 1 ∷ 2 ∷ [] };
      };
    }
    -- an evicted dirty address of B1
    ∷ record {
      C = 1;
      X = 0;
      t = 2;
      from = no_lists;
      over = new 1 (0 ∷ 1 ∷ 2 ∷ []);
      seen = record {
        said = says (read 0) miss 1 0 ∷ says (back 1 7) new_block 1 0 ∷ says (through 2 7) same_block 0 1 ∷ says (read 0) miss 1 1 ∷ [];
        returned = 0 ∷ 0 ∷ [];
        lists = lists (0 ∷ []) ([]) (2 ∷ []) ([]) ([]) 0;
        box = record { rows = clean 2 7 ∷ clean 0 0 ∷ []; free = []; used = block_row 0 0 ∷ []; flash = 0 ∷ []; disk = 0 ∷ 7 ∷ 7 ∷ [] };
      };
    }
    -- .. of B2
    ∷ record {
      C = 1;
      X = 0;
      t = 2;
      from = no_lists;
      over = new 1 (0 ∷ 1 ∷ 2 ∷ []);
      seen = record {
        said = says (read 0) miss 1 0 ∷ says (back 0 7) new_block 1 0 ∷ says (through 1 7) same_block 0 1 ∷ says (read 2) miss 1 1 ∷ [];
        returned = 0 ∷ 2 ∷ [];
        lists = lists (2 ∷ []) ([]) (1 ∷ []) ([]) ([]) 0;
        box = record { rows = clean 1 7 ∷ clean 2 2 ∷ []; free = []; used = block_row 2 0 ∷ []; flash = 2 ∷ []; disk = 7 ∷ 7 ∷ 2 ∷ [] };
      };
    }
    -- the loop twice: addresses 0 and 1 have one content; C 2, X 1
    ∷ record {
      C = 2;
      X = 1;
      t = 5;
      from = no_lists;
      over = new 2 (0 ∷ 0 ∷ 1 ∷ 2 ∷ 3 ∷ 4 ∷ []);
      seen = record {
        said = says (read 0) miss 1 0 ∷ says (read 1) miss 0 0 ∷ says (read 2) miss 1 0 ∷ says (read 3) miss 1 0 ∷ [];
        returned = 0 ∷ 0 ∷ 1 ∷ 2 ∷ [];
        lists = lists (2 ∷ 3 ∷ []) ([]) (0 ∷ 1 ∷ []) ([]) ([]) 0;
        box = record {
          rows = clean 0 0 ∷ clean 1 0 ∷ clean 2 1 ∷ clean 3 2 ∷ [];
          free = [];
          used = block_row 1 1 ∷ block_row 2 0 ∷ [];
          flash = 2 ∷ 1 ∷ [];
          disk = 0 ∷ 0 ∷ 1 ∷ 2 ∷ 3 ∷ 4 ∷ [];
        };
      };
    }
    -- write invalidate: of T1, T2 and B1, and the block that nobody has is freed
    ∷ record {
      C = 2;
      X = 1;
      t = 5;
      from = no_lists;
      over = new 2 (0 ∷ 0 ∷ 1 ∷ 2 ∷ 3 ∷ 4 ∷ []);
      seen = record {
        said = says (read 0) miss 1 0 ∷ says (read 2) miss 1 0 ∷ says (read 2) hit 0 0 ∷ says (read 3) miss 1 0 ∷ says (invalidate 3 8) new_block 0 1
            ∷ says (invalidate 0 8) new_block 0 1 ∷ says (invalidate 2 9) new_block 0 1 ∷ says (flush 5) done 0 0 ∷ says (look 0) from_disk 0 0 ∷ [];
        returned = 0 ∷ 1 ∷ 1 ∷ 2 ∷ 8 ∷ [];
        lists = lists ([]) ([]) ([]) ([]) ([]) 0;
        box = record { rows = []; free = 1 ∷ 0 ∷ []; used = []; flash = 2 ∷ 1 ∷ []; disk = 8 ∷ 0 ∷ 9 ∷ 8 ∷ 3 ∷ 4 ∷ [] };
      };
    }
    -- .. of an address of B1 whose block is still cached
    ∷ record {
      C = 1;
      X = 0;
      t = 2;
      from = no_lists;
      over = new 1 (0 ∷ 1 ∷ 2 ∷ []);
      seen = record {
        said = says (read 0) miss 1 0 ∷ says (read 1) miss 1 0 ∷ says (through 1 0) new_block 1 1 ∷ says (invalidate 1 3) new_block 0 1
            ∷ says (invalidate 0 3) new_block 0 1 ∷ [];
        returned = 0 ∷ 1 ∷ [];
        lists = lists ([]) ([]) ([]) ([]) ([]) 0;
        box = record { rows = []; free = 0 ∷ []; used = []; flash = 0 ∷ []; disk = 3 ∷ 3 ∷ 2 ∷ [] };
      };
    }
    -- writes back, flush and look
    ∷ record {
      C = 2;
      X = 1;
      t = 5;
      from = no_lists;
      over = new 2 (0 ∷ 0 ∷ 1 ∷ 2 ∷ 3 ∷ 4 ∷ []);
      seen = record {
        said = says (back 0 7) new_block 1 0 ∷ says (back 2 7) same_block 0 0 ∷ says (read 1) miss 1 0 ∷ says (flush 5) done 0 2
            ∷ says (look 2) from_cache 0 0 ∷ says (read 4) miss 1 0 ∷ says (look 0) from_disk 0 0 ∷ [];
        returned = 0 ∷ 7 ∷ 3 ∷ 7 ∷ [];
        lists = lists (1 ∷ 4 ∷ []) ([]) (0 ∷ 2 ∷ []) ([]) ([]) 0;
        box = record {
          rows = clean 0 7 ∷ clean 2 7 ∷ clean 1 0 ∷ clean 4 3 ∷ [];
          free = [];
          used = block_row 0 1 ∷ block_row 3 0 ∷ [];
          flash = 3 ∷ 0 ∷ [];
          disk = 7 ∷ 0 ∷ 7 ∷ 2 ∷ 3 ∷ 4 ∷ [];
        };
      };
    }
    -- from a given state: a hit in B3 goes to T1, p stays
    ∷ record {
      C = 2;
      X = 2;
      t = 6;
      from = lists (0 ∷ []) (1 ∷ []) ([]) ([]) (2 ∷ 3 ∷ []) 1;
      over = record {
        rows = clean 3 6 ∷ dirty 2 5 ∷ clean 0 5 ∷ clean 1 6 ∷ [];
        free = [];
        used = block_row 5 1 ∷ block_row 6 0 ∷ [];
        flash = 6 ∷ 5 ∷ [];
        disk = 5 ∷ 6 ∷ 2 ∷ 6 ∷ 4 ∷ 8 ∷ [];
      };
      seen = record {
        said = says (read 2) hit 0 0 ∷ [];
        returned = 5 ∷ [];
        lists = lists (0 ∷ 2 ∷ []) (1 ∷ []) ([]) ([]) (3 ∷ []) 1;
        box = record {
          rows = clean 3 6 ∷ clean 0 5 ∷ clean 1 6 ∷ dirty 2 5 ∷ [];
          free = [];
          used = block_row 6 0 ∷ block_row 5 1 ∷ [];
          flash = 6 ∷ 5 ∷ [];
          disk = 5 ∷ 6 ∷ 2 ∷ 6 ∷ 4 ∷ 8 ∷ [];
        };
      };
    }
    -- .. a new address where T1, T2 and B3 hold C + X: B3's oldest, 2, is dirty and reaches disk
    ∷ record {
      C = 2;
      X = 2;
      t = 6;
      from = lists (0 ∷ []) (1 ∷ []) ([]) ([]) (2 ∷ 3 ∷ []) 1;
      over = record {
        rows = clean 3 6 ∷ dirty 2 5 ∷ clean 0 5 ∷ clean 1 6 ∷ [];
        free = [];
        used = block_row 5 1 ∷ block_row 6 0 ∷ [];
        flash = 6 ∷ 5 ∷ [];
        disk = 5 ∷ 6 ∷ 2 ∷ 6 ∷ 4 ∷ 8 ∷ [];
      };
      seen = record {
        said = says (through 4 6) same_block 0 2 ∷ [];
        returned = [];
        lists = lists (0 ∷ 4 ∷ []) (1 ∷ []) ([]) ([]) (3 ∷ []) 1;
        box = record {
          rows = clean 3 6 ∷ clean 0 5 ∷ clean 1 6 ∷ clean 4 6 ∷ [];
          free = [];
          used = block_row 5 1 ∷ block_row 6 0 ∷ [];
          flash = 6 ∷ 5 ∷ [];
          disk = 5 ∷ 6 ∷ 5 ∷ 6 ∷ 6 ∷ 8 ∷ [];
        };
      };
    }
    -- .. its content changed, and inserted: it goes to T1
    ∷ record {
      C = 2;
      X = 2;
      t = 6;
      from = lists (0 ∷ []) (1 ∷ []) ([]) ([]) (2 ∷ 3 ∷ []) 1;
      over = record {
        rows = clean 3 6 ∷ dirty 2 5 ∷ clean 0 5 ∷ clean 1 6 ∷ [];
        free = [];
        used = block_row 5 1 ∷ block_row 6 0 ∷ [];
        flash = 6 ∷ 5 ∷ [];
        disk = 5 ∷ 6 ∷ 2 ∷ 6 ∷ 4 ∷ 8 ∷ [];
      };
      seen = record {
        said = says (through 2 9) new_block 1 1 ∷ [];
        returned = [];
        lists = lists (0 ∷ 2 ∷ []) ([]) ([]) (1 ∷ []) (3 ∷ []) 1;
        box = record {
          rows = clean 3 6 ∷ clean 0 5 ∷ clean 1 6 ∷ clean 2 9 ∷ [];
          free = [];
          used = block_row 5 1 ∷ block_row 9 0 ∷ [];
          flash = 9 ∷ 5 ∷ [];
          disk = 5 ∷ 6 ∷ 9 ∷ 6 ∷ 4 ∷ 8 ∷ [];
        };
      };
    }
    -- .. its content changed to a cached one, then a flush
    ∷ record {
      C = 2;
      X = 2;
      t = 6;
      from = lists (0 ∷ []) (1 ∷ []) ([]) ([]) (2 ∷ 3 ∷ []) 1;
      over = record {
        rows = clean 3 6 ∷ dirty 2 5 ∷ clean 0 5 ∷ clean 1 6 ∷ [];
        free = [];
        used = block_row 5 1 ∷ block_row 6 0 ∷ [];
        flash = 6 ∷ 5 ∷ [];
        disk = 5 ∷ 6 ∷ 2 ∷ 6 ∷ 4 ∷ 8 ∷ [];
      };
      seen = record {
        said = says (back 3 5) same_block 0 0 ∷ says (flush 6) done 0 2 ∷ says (look 3) from_cache 0 0 ∷ [];
        returned = 5 ∷ [];
        lists = lists (0 ∷ 3 ∷ []) (1 ∷ []) ([]) ([]) (2 ∷ []) 1;
        box = record {
          rows = clean 2 5 ∷ clean 0 5 ∷ clean 1 6 ∷ clean 3 5 ∷ [];
          free = [];
          used = block_row 6 0 ∷ block_row 5 1 ∷ [];
          flash = 6 ∷ 5 ∷ [];
          disk = 5 ∷ 6 ∷ 5 ∷ 5 ∷ 4 ∷ 8 ∷ [];
        };
      };
    }
    -- from a given state: the quotient 2 raises p by 2
    ∷ record {
      C = 3;
      X = 0;
      t = 6;
      from = lists (3 ∷ []) (4 ∷ []) (0 ∷ []) (1 ∷ 2 ∷ []) ([]) 0;
      over = record {
        rows = clean 0 0 ∷ clean 1 1 ∷ clean 2 2 ∷ clean 3 3 ∷ clean 4 4 ∷ [];
        free = 2 ∷ [];
        used = block_row 3 0 ∷ block_row 4 1 ∷ [];
        flash = 3 ∷ 4 ∷ 99 ∷ [];
        disk = 0 ∷ 1 ∷ 2 ∷ 3 ∷ 4 ∷ 5 ∷ [];
      };
      seen = record {
        said = says (read 0) miss 1 0 ∷ [];
        returned = 0 ∷ [];
        lists = lists (3 ∷ []) (4 ∷ 0 ∷ []) ([]) (1 ∷ 2 ∷ []) ([]) 2;
        box = record {
          rows = clean 1 1 ∷ clean 2 2 ∷ clean 3 3 ∷ clean 4 4 ∷ clean 0 0 ∷ [];
          free = [];
          used = block_row 3 0 ∷ block_row 4 1 ∷ block_row 0 2 ∷ [];
          flash = 3 ∷ 4 ∷ 0 ∷ [];
          disk = 0 ∷ 1 ∷ 2 ∷ 3 ∷ 4 ∷ 5 ∷ [];
        };
      };
    }
    -- .. and lowers it by 2
    ∷ record {
      C = 3;
      X = 0;
      t = 6;
      from = lists (3 ∷ []) (4 ∷ []) (0 ∷ 1 ∷ []) (2 ∷ []) ([]) 3;
      over = record {
        rows = clean 0 0 ∷ clean 1 1 ∷ clean 2 2 ∷ clean 3 3 ∷ clean 4 4 ∷ [];
        free = 2 ∷ [];
        used = block_row 3 0 ∷ block_row 4 1 ∷ [];
        flash = 3 ∷ 4 ∷ 99 ∷ [];
        disk = 0 ∷ 1 ∷ 2 ∷ 3 ∷ 4 ∷ 5 ∷ [];
      };
      seen = record {
        said = says (read 2) miss 1 0 ∷ [];
        returned = 2 ∷ [];
        lists = lists (3 ∷ []) (4 ∷ 2 ∷ []) (0 ∷ 1 ∷ []) ([]) ([]) 1;
        box = record {
          rows = clean 0 0 ∷ clean 1 1 ∷ clean 3 3 ∷ clean 4 4 ∷ clean 2 2 ∷ [];
          free = [];
          used = block_row 3 0 ∷ block_row 4 1 ∷ block_row 2 2 ∷ [];
          flash = 3 ∷ 4 ∷ 2 ∷ [];
          disk = 0 ∷ 1 ∷ 2 ∷ 3 ∷ 4 ∷ 5 ∷ [];
        };
      };
    }
    -- a write back of the content that a clean row has already leaves it clean; its address goes to T2
    ∷ record {
      C = 1;
      X = 1;
      t = 3;
      from = no_lists;
      over = new 1 (0 ∷ 1 ∷ 2 ∷ []);
      seen = record {
        said = says (read 0) miss 1 0 ∷ says (back 0 0) same_block 0 0 ∷ says (flush 3) done 0 0 ∷ [];
        returned = 0 ∷ [];
        lists = lists ([]) (0 ∷ []) ([]) ([]) ([]) 0;
        box = record { rows = clean 0 0 ∷ []; free = []; used = block_row 0 0 ∷ []; flash = 0 ∷ []; disk = 0 ∷ 1 ∷ 2 ∷ [] };
      };
    }
    -- .. of a dirty row: it stays dirty
    ∷ record {
      C = 1;
      X = 1;
      t = 3;
      from = no_lists;
      over = new 1 (0 ∷ 1 ∷ 2 ∷ []);
      seen = record {
        said = says (back 0 5) new_block 1 0 ∷ says (back 0 5) same_block 0 0 ∷ [];
        returned = [];
        lists = lists ([]) (0 ∷ []) ([]) ([]) ([]) 0;
        box = record { rows = dirty 0 5 ∷ []; free = []; used = block_row 5 0 ∷ []; flash = 5 ∷ []; disk = 0 ∷ 1 ∷ 2 ∷ [] };
      };
    }
    -- .. of a clean row of B1 whose block is not cached: the row is clean, the block is inserted, and p is raised
    ∷ record {
      C = 1;
      X = 0;
      t = 2;
      from = no_lists;
      over = new 1 (0 ∷ 1 ∷ 2 ∷ []);
      seen = record {
        said = says (read 0) miss 1 0 ∷ says (read 1) miss 1 0 ∷ says (back 0 0) new_block 1 0 ∷ [];
        returned = 0 ∷ 1 ∷ [];
        lists = lists ([]) (0 ∷ []) (1 ∷ []) ([]) ([]) 1;
        box = record { rows = clean 1 1 ∷ clean 0 0 ∷ []; free = []; used = block_row 0 0 ∷ []; flash = 0 ∷ []; disk = 0 ∷ 1 ∷ 2 ∷ [] };
      };
    }
    -- a flush of 1 of two dirty rows cleans the older one; no list and no order changes
    ∷ record {
      C = 2;
      X = 0;
      t = 4;
      from = no_lists;
      over = new 2 (0 ∷ 1 ∷ 2 ∷ []);
      seen = record {
        said = says (back 0 5) new_block 1 0 ∷ says (back 1 6) new_block 1 0 ∷ says (flush 1) done 0 1 ∷ [];
        returned = [];
        lists = lists (0 ∷ 1 ∷ []) ([]) ([]) ([]) ([]) 0;
        box = record {
          rows = clean 0 5 ∷ dirty 1 6 ∷ [];
          free = [];
          used = block_row 5 0 ∷ block_row 6 1 ∷ [];
          flash = 5 ∷ 6 ∷ [];
          disk = 5 ∷ 1 ∷ 2 ∷ [];
        };
      };
    }
    -- from a given state: B1 and B2 would pass C and neither is empty: B1's oldest, 0, is evicted
    ∷ record {
      C = 2;
      X = 0;
      t = 4;
      from = lists (3 ∷ []) (4 ∷ []) (0 ∷ []) (1 ∷ []) ([]) 0;
      over = record {
        rows = clean 0 0 ∷ clean 1 1 ∷ clean 3 3 ∷ clean 4 4 ∷ [];
        free = [];
        used = block_row 3 0 ∷ block_row 4 1 ∷ [];
        flash = 3 ∷ 4 ∷ [];
        disk = 0 ∷ 1 ∷ 2 ∷ 3 ∷ 4 ∷ [];
      };
      seen = record {
        said = says (read 2) miss 1 0 ∷ [];
        returned = 2 ∷ [];
        lists = lists (2 ∷ []) (4 ∷ []) (3 ∷ []) (1 ∷ []) ([]) 0;
        box = record {
          rows = clean 1 1 ∷ clean 3 3 ∷ clean 4 4 ∷ clean 2 2 ∷ [];
          free = [];
          used = block_row 4 1 ∷ block_row 2 0 ∷ [];
          flash = 2 ∷ 4 ∷ [];
          disk = 0 ∷ 1 ∷ 2 ∷ 3 ∷ 4 ∷ [];
        };
      };
    }
    -- from a given state: a hit in B1 raises p to 1 before the insertion, so the replacement takes from T2, not from T1
    ∷ record {
      C = 2;
      X = 0;
      t = 4;
      from = lists (3 ∷ []) (4 ∷ []) (0 ∷ []) ([]) ([]) 0;
      over = record {
        rows = clean 0 0 ∷ clean 3 3 ∷ clean 4 4 ∷ [];
        free = [];
        used = block_row 3 0 ∷ block_row 4 1 ∷ [];
        flash = 3 ∷ 4 ∷ [];
        disk = 0 ∷ 1 ∷ 2 ∷ 3 ∷ 4 ∷ [];
      };
      seen = record {
        said = says (read 0) miss 1 0 ∷ [];
        returned = 0 ∷ [];
        lists = lists (3 ∷ []) (0 ∷ []) ([]) (4 ∷ []) ([]) 1;
        box = record {
          rows = clean 3 3 ∷ clean 4 4 ∷ clean 0 0 ∷ [];
          free = [];
          used = block_row 3 0 ∷ block_row 0 1 ∷ [];
          flash = 3 ∷ 0 ∷ [];
          disk = 0 ∷ 1 ∷ 2 ∷ 3 ∷ 4 ∷ [];
        };
      };
    }
    -- from a given state: a free block row is taken before the block of 0, which no address of T1 or T2 has
    ∷ record {
      C = 3;
      X = 0;
      t = 6;
      from = lists (1 ∷ []) ([]) (0 ∷ []) ([]) ([]) 0;
      over = record {
        rows = clean 0 0 ∷ clean 1 1 ∷ [];
        free = 2 ∷ [];
        used = block_row 0 0 ∷ block_row 1 1 ∷ [];
        flash = 0 ∷ 1 ∷ 9 ∷ [];
        disk = 0 ∷ 1 ∷ 2 ∷ [];
      };
      seen = record {
        said = says (read 2) miss 1 0 ∷ [];
        returned = 2 ∷ [];
        lists = lists (1 ∷ 2 ∷ []) ([]) (0 ∷ []) ([]) ([]) 0;
        box = record {
          rows = clean 0 0 ∷ clean 1 1 ∷ clean 2 2 ∷ [];
          free = [];
          used = block_row 0 0 ∷ block_row 1 1 ∷ block_row 2 2 ∷ [];
          flash = 0 ∷ 1 ∷ 2 ∷ [];
          disk = 0 ∷ 1 ∷ 2 ∷ [];
        };
      };
    }
    -- U7: "writes carry it .., reads keep it": a write back by seat 0x0807 and a hit
    ∷ record {
      C = 1;
      X = 0;
      t = 2;
      from = no_lists;
      over = new 1 (0 ∷ 1 ∷ 2 ∷ []);
      seen = record {
        said = says (Call.back 0 5 (7, 8)) new_block 1 0 ∷ says (read 0) hit 0 0 ∷ [];
        returned = 5 ∷ [];
        lists = lists ([]) (0 ∷ []) ([]) ([]) ([]) 0;
        box = record { rows = newest 0 5 true (7, 8) ∷ []; free = []; used = block_row 5 0 ∷ []; flash = 5 ∷ []; disk = 0 ∷ 1 ∷ 2 ∷ [] };
      };
    }
    -- "a read of an address not held sets 0"; a miss of a held address keeps its seat, and so does a row that is made clean
    ∷ record {
      C = 1;
      X = 0;
      t = 2;
      from = no_lists;
      over = new 1 (0 ∷ 1 ∷ 2 ∷ []);
      seen = record {
        said = says (Call.back 0 5 (7, 8)) new_block 1 0 ∷ says (read 0) hit 0 0 ∷ says (read 1) miss 1 1 ∷ says (read 0) miss 1 0 ∷ [];
        returned = 5 ∷ 1 ∷ 5 ∷ [];
        lists = lists ([]) (0 ∷ []) (1 ∷ []) ([]) ([]) 0;
        box = record {
          rows = clean 1 1 ∷ newest 0 5 false (7, 8) ∷ [];
          free = [];
          used = block_row 5 0 ∷ [];
          flash = 5 ∷ [];
          disk = 5 ∷ 1 ∷ 2 ∷ [];
        };
      };
    }
    -- a write through by another seat
    ∷ record {
      C = 1;
      X = 0;
      t = 2;
      from = lists ([]) (0 ∷ []) (1 ∷ []) ([]) ([]) 0;
      over = record {
        rows = newest 1 1 false (3, 0) ∷ newest 0 5 false (7, 8) ∷ [];
        free = [];
        used = block_row 5 0 ∷ [];
        flash = 5 ∷ [];
        disk = 5 ∷ 1 ∷ 2 ∷ [];
      };
      seen = record {
        said = says (Call.through 1 5 (9, 1)) same_block 0 1 ∷ [];
        returned = [];
        lists = lists ([]) (1 ∷ []) ([]) (0 ∷ []) ([]) 1;
        box = record {
          rows = newest 0 5 false (7, 8) ∷ newest 1 5 false (9, 1) ∷ [];
          free = [];
          used = block_row 5 0 ∷ [];
          flash = 5 ∷ [];
          disk = 5 ∷ 5 ∷ 2 ∷ [];
        };
      };
    }
    -- U8: at a limit of 1 the second write back copies the first one's block; the lists are as without it
    ∷ record {
      C = 2;
      X = 0;
      t = 1;
      from = no_lists;
      over = new 2 (0 ∷ 1 ∷ 2 ∷ []);
      seen = record {
        said = says (back 0 5) new_block 1 0 ∷ says (back 1 6) new_block 1 1 ∷ [];
        returned = [];
        lists = lists (0 ∷ 1 ∷ []) ([]) ([]) ([]) ([]) 0;
        box = record { rows = clean 0 5 ∷ dirty 1 6 ∷ []; free = []; used = block_row 5 0 ∷ block_row 6 1 ∷ []; flash = 5 ∷ 6 ∷ []; disk = 5 ∷ 1 ∷ 2 ∷ [] };
      };
    }
    -- a hit in B1, which has 2, where B2 has 3: the quotient is 1, rounded down, by the sizes before the address left
    ∷ record {
      C = 5;
      X = 0;
      t = 10;
      from = lists ([]) ([]) (0 ∷ 1 ∷ []) (2 ∷ 3 ∷ 4 ∷ []) ([]) 0;
      over = record {
        rows = clean 0 0 ∷ clean 1 1 ∷ clean 2 2 ∷ clean 3 3 ∷ clean 4 4 ∷ [];
        free = 0 ∷ 1 ∷ 2 ∷ 3 ∷ 4 ∷ [];
        used = [];
        flash = 99 ∷ 99 ∷ 99 ∷ 99 ∷ 99 ∷ [];
        disk = 0 ∷ 1 ∷ 2 ∷ 3 ∷ 4 ∷ [];
      };
      seen = record {
        said = says (read 0) miss 1 0 ∷ [];
        returned = 0 ∷ [];
        lists = lists ([]) (0 ∷ []) (1 ∷ []) (2 ∷ 3 ∷ 4 ∷ []) ([]) 1;
        box = record {
          rows = clean 1 1 ∷ clean 2 2 ∷ clean 3 3 ∷ clean 4 4 ∷ clean 0 0 ∷ [];
          free = 1 ∷ 2 ∷ 3 ∷ 4 ∷ [];
          used = block_row 0 0 ∷ [];
          flash = 0 ∷ 99 ∷ 99 ∷ 99 ∷ 99 ∷ [];
          disk = 0 ∷ 1 ∷ 2 ∷ 3 ∷ 4 ∷ [];
        };
      };
    }
    -- a hit in B2, which has 2, where B1 has 3: p falls by 1
    ∷ record {
      C = 5;
      X = 0;
      t = 10;
      from = lists ([]) ([]) (0 ∷ 1 ∷ 2 ∷ []) (3 ∷ 4 ∷ []) ([]) 5;
      over = record {
        rows = clean 0 0 ∷ clean 1 1 ∷ clean 2 2 ∷ clean 3 3 ∷ clean 4 4 ∷ [];
        free = 0 ∷ 1 ∷ 2 ∷ 3 ∷ 4 ∷ [];
        used = [];
        flash = 99 ∷ 99 ∷ 99 ∷ 99 ∷ 99 ∷ [];
        disk = 0 ∷ 1 ∷ 2 ∷ 3 ∷ 4 ∷ [];
      };
      seen = record {
        said = says (read 3) miss 1 0 ∷ [];
        returned = 3 ∷ [];
        lists = lists ([]) (3 ∷ []) (0 ∷ 1 ∷ 2 ∷ []) (4 ∷ []) ([]) 4;
        box = record {
          rows = clean 0 0 ∷ clean 1 1 ∷ clean 2 2 ∷ clean 4 4 ∷ clean 3 3 ∷ [];
          free = 1 ∷ 2 ∷ 3 ∷ 4 ∷ [];
          used = block_row 3 0 ∷ [];
          flash = 3 ∷ 99 ∷ 99 ∷ 99 ∷ 99 ∷ [];
          disk = 0 ∷ 1 ∷ 2 ∷ 3 ∷ 4 ∷ [];
        };
      };
    }
    -- a hit in B2 lowers p to T1's size: the replacement takes from T1
    ∷ record {
      C = 2;
      X = 0;
      t = 4;
      from = lists (3 ∷ []) (4 ∷ []) ([]) (0 ∷ []) ([]) 2;
      over = record {
        rows = clean 0 0 ∷ clean 3 3 ∷ clean 4 4 ∷ [];
        free = [];
        used = block_row 3 0 ∷ block_row 4 1 ∷ [];
        flash = 3 ∷ 4 ∷ [];
        disk = 0 ∷ 1 ∷ 2 ∷ 3 ∷ 4 ∷ [];
      };
      seen = record {
        said = says (read 0) miss 1 0 ∷ [];
        returned = 0 ∷ [];
        lists = lists ([]) (4 ∷ 0 ∷ []) (3 ∷ []) ([]) ([]) 1;
        box = record {
          rows = clean 3 3 ∷ clean 4 4 ∷ clean 0 0 ∷ [];
          free = [];
          used = block_row 4 1 ∷ block_row 0 0 ∷ [];
          flash = 0 ∷ 4 ∷ [];
          disk = 0 ∷ 1 ∷ 2 ∷ 3 ∷ 4 ∷ [];
        };
      };
    }
    -- an address goes to B2 where B1 and B2 hold C: B1's oldest is evicted
    ∷ record {
      C = 2;
      X = 0;
      t = 4;
      from = lists ([]) (3 ∷ 4 ∷ []) (0 ∷ []) (1 ∷ []) ([]) 0;
      over = record {
        rows = clean 0 0 ∷ clean 1 1 ∷ clean 3 3 ∷ clean 4 4 ∷ [];
        free = [];
        used = block_row 3 0 ∷ block_row 4 1 ∷ [];
        flash = 3 ∷ 4 ∷ [];
        disk = 0 ∷ 1 ∷ 2 ∷ 3 ∷ 4 ∷ [];
      };
      seen = record {
        said = says (read 2) miss 1 0 ∷ [];
        returned = 2 ∷ [];
        lists = lists (2 ∷ []) (4 ∷ []) ([]) (1 ∷ 3 ∷ []) ([]) 0;
        box = record {
          rows = clean 1 1 ∷ clean 3 3 ∷ clean 4 4 ∷ clean 2 2 ∷ [];
          free = [];
          used = block_row 4 1 ∷ block_row 2 0 ∷ [];
          flash = 2 ∷ 4 ∷ [];
          disk = 0 ∷ 1 ∷ 2 ∷ 3 ∷ 4 ∷ [];
        };
      };
    }
    -- two dirty addresses of B1 lose their one block together
    ∷ record {
      C = 2;
      X = 2;
      t = 6;
      from = lists (3 ∷ []) ([]) (0 ∷ 1 ∷ []) ([]) ([]) 0;
      over = record {
        rows = dirty 0 5 ∷ dirty 1 5 ∷ clean 3 3 ∷ [];
        free = [];
        used = block_row 5 0 ∷ block_row 3 1 ∷ [];
        flash = 5 ∷ 3 ∷ [];
        disk = 0 ∷ 1 ∷ 2 ∷ 3 ∷ [];
      };
      seen = record {
        said = says (read 2) miss 1 2 ∷ [];
        returned = 2 ∷ [];
        lists = lists (3 ∷ 2 ∷ []) ([]) (0 ∷ 1 ∷ []) ([]) ([]) 0;
        box = record {
          rows = clean 0 5 ∷ clean 1 5 ∷ clean 3 3 ∷ clean 2 2 ∷ [];
          free = [];
          used = block_row 3 1 ∷ block_row 2 0 ∷ [];
          flash = 2 ∷ 3 ∷ [];
          disk = 5 ∷ 5 ∷ 2 ∷ 3 ∷ [];
        };
      };
    }
    -- the limit copies the block of the row that is the oldest by use, whichever list it is in
    ∷ record {
      C = 2;
      X = 2;
      t = 2;
      from = lists (0 ∷ []) ([]) ([]) ([]) (1 ∷ []) 0;
      over = record { rows = dirty 1 6 ∷ dirty 0 5 ∷ []; free = []; used = block_row 6 0 ∷ block_row 5 1 ∷ []; flash = 6 ∷ 5 ∷ []; disk = 0 ∷ 1 ∷ 2 ∷ [] };
      seen = record {
        said = says (back 2 5) same_block 0 1 ∷ [];
        returned = [];
        lists = lists (0 ∷ 2 ∷ []) ([]) ([]) ([]) (1 ∷ []) 0;
        box = record {
          rows = clean 1 6 ∷ dirty 0 5 ∷ dirty 2 5 ∷ [];
          free = [];
          used = block_row 6 0 ∷ block_row 5 1 ∷ [];
          flash = 6 ∷ 5 ∷ [];
          disk = 0 ∷ 6 ∷ 2 ∷ [];
        };
      };
    }
    -- write invalidate of an address of B3 keeps the block that one of T1 has; of the one of T1 then frees it
    ∷ record {
      C = 2;
      X = 2;
      t = 6;
      from = lists (0 ∷ []) ([]) ([]) (2 ∷ []) (1 ∷ []) 1;
      over = record {
        rows = clean 1 5 ∷ clean 2 6 ∷ clean 0 5 ∷ [];
        free = [];
        used = block_row 6 0 ∷ block_row 5 1 ∷ [];
        flash = 6 ∷ 5 ∷ [];
        disk = 5 ∷ 5 ∷ 6 ∷ [];
      };
      seen = record {
        said = says (invalidate 1 9) new_block 0 1 ∷ says (invalidate 0 6) same_block 0 1 ∷ [];
        returned = [];
        lists = lists ([]) ([]) ([]) (2 ∷ []) ([]) 1;
        box = record { rows = clean 2 6 ∷ []; free = 1 ∷ []; used = block_row 6 0 ∷ []; flash = 6 ∷ 5 ∷ []; disk = 6 ∷ 9 ∷ 6 ∷ [] };
      };
    }
    -- the first way where B3 is empty: B1's dirty oldest goes to B3 and reaches disk, T2's oldest goes to B2
    ∷ record {
      C = 2;
      X = 0;
      t = 4;
      from = lists (3 ∷ []) (4 ∷ []) (0 ∷ []) ([]) ([]) 1;
      over = record {
        rows = dirty 0 3 ∷ clean 3 3 ∷ clean 4 4 ∷ [];
        free = [];
        used = block_row 3 0 ∷ block_row 4 1 ∷ [];
        flash = 3 ∷ 4 ∷ [];
        disk = 0 ∷ 1 ∷ 2 ∷ 3 ∷ 4 ∷ [];
      };
      seen = record {
        said = says (through 1 4) same_block 0 2 ∷ [];
        returned = [];
        lists = lists (3 ∷ 1 ∷ []) ([]) ([]) (4 ∷ []) ([]) 1;
        box = record {
          rows = clean 3 3 ∷ clean 4 4 ∷ clean 1 4 ∷ [];
          free = [];
          used = block_row 3 0 ∷ block_row 4 1 ∷ [];
          flash = 3 ∷ 4 ∷ [];
          disk = 3 ∷ 4 ∷ 2 ∷ 3 ∷ 4 ∷ [];
        };
      };
    }
    -- the last way where B1 and B2 hold C and neither is empty: B2's oldest goes to B3 and is evicted
    ∷ record {
      C = 2;
      X = 0;
      t = 4;
      from = lists ([]) (3 ∷ 4 ∷ []) (0 ∷ []) (1 ∷ []) ([]) 0;
      over = record {
        rows = clean 0 0 ∷ clean 1 1 ∷ clean 3 3 ∷ clean 4 4 ∷ [];
        free = [];
        used = block_row 3 0 ∷ block_row 4 1 ∷ [];
        flash = 3 ∷ 4 ∷ [];
        disk = 0 ∷ 1 ∷ 2 ∷ 3 ∷ 4 ∷ [];
      };
      seen = record {
        said = says (through 2 4) same_block 0 1 ∷ [];
        returned = [];
        lists = lists (2 ∷ []) (4 ∷ []) (0 ∷ []) (3 ∷ []) ([]) 0;
        box = record {
          rows = clean 0 0 ∷ clean 3 3 ∷ clean 4 4 ∷ clean 2 4 ∷ [];
          free = [];
          used = block_row 3 0 ∷ block_row 4 1 ∷ [];
          flash = 3 ∷ 4 ∷ [];
          disk = 0 ∷ 1 ∷ 4 ∷ 3 ∷ 4 ∷ [];
        };
      };
    }
    -- of two blocks that no address of T1 or T2 has, the oldest is the victim
    ∷ record {
      C = 3;
      X = 0;
      t = 6;
      from = lists (0 ∷ []) ([]) (1 ∷ 2 ∷ []) ([]) ([]) 0;
      over = record {
        rows = clean 1 1 ∷ clean 2 2 ∷ clean 0 0 ∷ [];
        free = [];
        used = block_row 1 0 ∷ block_row 2 1 ∷ block_row 0 2 ∷ [];
        flash = 1 ∷ 2 ∷ 0 ∷ [];
        disk = 0 ∷ 1 ∷ 2 ∷ 3 ∷ [];
      };
      seen = record {
        said = says (read 3) miss 1 0 ∷ [];
        returned = 3 ∷ [];
        lists = lists (0 ∷ 3 ∷ []) ([]) (1 ∷ 2 ∷ []) ([]) ([]) 0;
        box = record {
          rows = clean 1 1 ∷ clean 2 2 ∷ clean 0 0 ∷ clean 3 3 ∷ [];
          free = [];
          used = block_row 2 1 ∷ block_row 0 2 ∷ block_row 3 0 ∷ [];
          flash = 3 ∷ 2 ∷ 0 ∷ [];
          disk = 0 ∷ 1 ∷ 2 ∷ 3 ∷ [];
        };
      };
    }
    ∷ []

-- Folder reads: the blocks of the buffer, what the call counts of its own, and the lists and the box after it
pub record FolderSeen : Type 0 where
  pub blocks : List ℕ
  pub hits : ℕ
  pub misses : ℕ
  pub flash_writes : ℕ
  pub primary_writes : ℕ
  pub fetches : ℕ
  pub lists : Lists
  pub box : Box ℕ ℕ

pub record FolderExample : Type 0 where
  pub C : ℕ
  pub X : ℕ
  pub from : Lists
  pub over : Box ℕ ℕ
  pub asked : List ℕ
  pub seen : FolderSeen

abbrev folder_seen : FolderBy ℕ ℕ Lists → FolderSeen
folder_seen t =
    let b = t.batched in
    record {
      blocks = blocks_in b.filled;
      hits = b.hits;
      misses = b.misses;
      flash_writes = b.flash_writes;
      primary_writes = b.primary_writes;
      fetches = b.fetches;
      lists = t.kept;
      box = b.box;
    }

abbrev pub play_folder : FolderExample → FolderSeen
play_folder e =
    let Z : Sizes = record { B = 1; P = length e.over.disk; C = e.C; X = e.X; label = []; t = e.C + e.C + e.X } in
    folder_seen (folder labels (arc labels Z) (record { kept = e.from; batched = start e.over no_counts }) e.asked)

abbrev pub folders : List FolderExample
folders =
    -- a repeat that hits: it goes to T2
    record {
      C = 1;
      X = 0;
      from = no_lists;
      over = new 1 (0 ∷ 1 ∷ 2 ∷ []);
      asked = 0 ∷ 0 ∷ [];
      seen = record {
        blocks = 0 ∷ 0 ∷ [];
        hits = 1;
        misses = 1;
        flash_writes = 1;
        primary_writes = 0;
        fetches = 1;
        lists = lists ([]) (0 ∷ []) ([]) ([]) ([]) 0;
        box = record { rows = clean 0 0 ∷ []; free = []; used = block_row 0 0 ∷ []; flash = 0 ∷ []; disk = 0 ∷ 1 ∷ 2 ∷ [] };
      };
    }
    -- a repeat that misses, a hit in B1: it takes the block that its first read put in the buffer, and isn't fetched
    ∷ record {
      C = 1;
      X = 0;
      from = no_lists;
      over = new 1 (0 ∷ 1 ∷ 2 ∷ []);
      asked = 0 ∷ 1 ∷ 0 ∷ [];
      seen = record {
        blocks = 0 ∷ 1 ∷ 0 ∷ [];
        hits = 0;
        misses = 3;
        flash_writes = 3;
        primary_writes = 0;
        fetches = 2;
        lists = lists ([]) (0 ∷ []) (1 ∷ []) ([]) ([]) 1;
        box = record { rows = clean 1 1 ∷ clean 0 0 ∷ []; free = []; used = block_row 0 0 ∷ []; flash = 0 ∷ []; disk = 0 ∷ 1 ∷ 2 ∷ [] };
      };
    }
    -- a dirty block is taken between the reads: the disk's block is fetched at its own turn
    ∷ record {
      C = 1;
      X = 1;
      from = lists (0 ∷ []) ([]) ([]) ([]) ([]) 0;
      over = record { rows = dirty 0 5 ∷ []; free = []; used = block_row 5 0 ∷ []; flash = 5 ∷ []; disk = 0 ∷ 1 ∷ 2 ∷ [] };
      asked = 1 ∷ 0 ∷ [];
      seen = record {
        blocks = 1 ∷ 5 ∷ [];
        hits = 0;
        misses = 2;
        flash_writes = 2;
        primary_writes = 1;
        fetches = 2;
        lists = lists ([]) (0 ∷ []) (1 ∷ []) ([]) ([]) 1;
        box = record { rows = clean 1 1 ∷ clean 0 5 ∷ []; free = []; used = block_row 5 0 ∷ []; flash = 5 ∷ []; disk = 5 ∷ 1 ∷ 2 ∷ [] };
      };
    }
    ∷ []
